-- references::links_valid meets its contract: as its callees say. Assumes nothing.
use borrow.Author.Rules.{rules}
use Rattle.references.proofs.Links.{at_links}
use Rattle.references.proofs.links_valid.Goals as goal

pub returns : goal.returns
returns c = search (rules, at_links)
