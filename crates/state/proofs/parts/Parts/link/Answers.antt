-- What is freed in the state with the new pair is what the rules' sweep frees. Assumes nothing.
use borrow.Author.Rules.{rules}
use Rattle.state.proofs.ReleaseLaws.{linked}
use Rattle.state.proofs.parts.Parts.link.Goals as goal

pub returns-clause-linked : goal.returns-clause-linked
returns-clause-linked c = rw (c.free_unreferenced-2.ensures.control, c.free_unreferenced.ensures.control) (linked
    c.args.place c.args.pair c.args.self.now.handles.now
    c.requires
    c.pair_at-before.ensures
    c.set_pair.ensures
    c.free_unreferenced.ensures.freed
    (search rules))
