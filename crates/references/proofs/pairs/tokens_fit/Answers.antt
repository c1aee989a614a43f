-- references::pairs::tokens_fit meets its contract: by whether both are found. Assumes nothing.
use Rattle.references.proofs.PairRows.{no_elevated, no_filtered, at_tokens}
use Rattle.references.proofs.pairs.tokens_fit.Goals as goal

pub returns-in_default : goal.returns-in_default
returns-in_default c = no_elevated _ _ _ _ c.in_default.ensures.slot

pub returns-in_default-find : goal.returns-in_default-find
returns-in_default-find c = no_filtered _ _ _ _ c.in_default-find.ensures.slot

pub returns : goal.returns
returns c =
    at_tokens _ _ _ _ c.token_rows-rows.ensures c.in-Some.ensures.slot c.in-Some-find.ensures.slot c.in-Some.ensures.within c.in-Some-find.ensures.within c.rows_fit.ensures
