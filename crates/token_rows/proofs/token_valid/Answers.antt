-- token_rows::token_valid meets its contract: by the slot and the counts. Assumes nothing.
use Rattle.std.proofs.Common.{rules}
use Rattle.token_rows.proofs.TokenRow.{at_free, too_many_groups, too_many_sids, too_many_bytes, at_live}
use Rattle.token_rows.proofs.token_valid.Goals as goal

pub returns-then-words-eq0 : goal.returns-then-words-eq0
returns-then-words-eq0 c = search (rules, at_free)

pub returns-then-words : goal.returns-then-words
returns-then-words c = search (rules, too_many_groups)

pub returns-then-words-2 : goal.returns-then-words-2
returns-then-words-2 c = search (rules, too_many_sids)

pub returns-then-words-3 : goal.returns-then-words-3
returns-then-words-3 c = search (rules, too_many_bytes)

pub returns : goal.returns
returns c = search (rules, at_live)
