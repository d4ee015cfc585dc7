-- `dimacs::WordTexts::put_word` meets its contract: the entry is copied, and its eighth byte is the length of the text. Assumes nothing.
use mathlib.Core.Path.{◌≡◌, ap}
use native.Mathlib.Omega.{arith}
use lib.ListN.{length, length-take}
use mir.Facts.{to_z-of_z}
use Rattle.dimacs.proofs.Table.{copied, entry_copied}
use Rattle.dimacs.proofs.WordTexts.put_word.Goals as goal

pub returns : goal.returns
returns c =
    let e = c.entry-entry.result in
    let out = c.args.out.now in
    let copy = c.copy_from_slice.ensures in
    let eight : length e ≡ 8 = omega (arith, ap length copy.after, copy.len, length-take 8 out) in
    rw c.from.ensures (entry_copied c.args.w e _ out eight (rw (to_z-of_z c.ranges.w) at c.entry-entry.ensures) (copied e out _ eight copy.after))
