-- token_rows::live_valid meets its contract: the parts' tests come to the row's. Assumes nothing.
use Rattle.std.proofs.Common.{rules}
use Rattle.token_rows.proofs.TokenRow.{at_end}
use Rattle.token_rows.proofs.live_valid.Goals as goal

pub returns : goal.returns
returns c = let a = c.args in search (rules, at_end a.words.now a.dacl.now c.fits-words c.fits-dacl)
