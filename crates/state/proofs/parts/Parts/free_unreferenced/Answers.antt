-- The token stays, or its slot is cleared, or it has none. Assumes nothing.
use borrow.Author.Rules.{rules}
use Rattle.state.proofs.ReleaseLaws.{token_kept, token_freed, token_missing}
use Rattle.state.proofs.parts.Parts.free_unreferenced.Goals as goal

pub returns-then-refers-clause-freed : goal.returns-then-refers-clause-freed
returns-then-refers-clause-freed c = search (rules, token_kept)

pub returns-in-Some-clause-freed : goal.returns-in-Some-clause-freed
returns-in-Some-clause-freed c = search (rules, token_freed)

pub returns-in_default-clause-freed : goal.returns-in_default-clause-freed
returns-in_default-clause-freed c = search (rules, token_missing)
