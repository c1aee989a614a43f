-- Two words, cut to what a row has room for, and a mark. Assumes nothing.
use Rattle.std.proofs.Common.{◌∙◌}
use Rattle.table.specs.Table.{part_at}
use Rattle.rules.specs.Memory.{token_words}
use Rattle.copy.proofs.RestrictEnding.{sources}
use Rattle.copy.proofs.restricted_row.source_at.Goals as goal

pub returns : goal.returns
returns c = sources _ (c.row-words.ensures ∙ part_at token_words c.args.slot c.args.parts.now.tokens.now) c.count_in-groups.ensures c.count_in-restricting.ensures
