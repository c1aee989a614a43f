-- The counters and the SID table over zeros; then its loop gives a station more its token. Assumes nothing.
use mathlib.Core.Path.{refl}
use borrow.Author.Rules.{rules}
use Rattle.control.proofs.Beginning.{cleared, sids_long, sids_zero, begun_none, begun_more, begun_all}
use Rattle.control.proofs.initial.write.Goals as goal

pub write_sids-requires : goal.write_sids-requires
write_sids-requires c = let z = cleared c.args.control.now c.told-control (c.fill.ensures.after (λ y h. h)) in (sids_long z, sids_zero z)

pub loop-number-init : goal.loop-number-init
loop-number-init c = begun_none (cleared c.args.control.now c.told-control (c.fill.ensures.after (λ y h. h))) c.write_sids.ensures refl

pub loop-number-preserved : goal.loop-number-preserved
loop-number-preserved c = search (rules, begun_more)

pub returns : goal.returns
returns c = search (rules, begun_all)
