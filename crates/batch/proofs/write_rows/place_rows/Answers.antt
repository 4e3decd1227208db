use mathlib.Core.Path.{◌≡◌, sym, subst}
use native.Mathlib.Omega.{arith}
use Prim.Native.Nat.{ℕ, ◌+◌, ◌*◌, ◌≤◌}
use lib.ListN.{length}
use Rattle.model.specs.Sizes.{row_words}
use Rattle.batch.proofs.RowsWritten.{place-asked, rows-over}
use Rattle.batch.proofs.write_rows.place_rows.Goals as goal

pub place-requires : goal.place-requires
place-requires c =
    let s = c in
    let f = c.find_spots in
    let order = f.new.order in
    let places = f.new.places in
    let e = f.ensures in
    let size : length order ≡ length s.args.sorted.now = omega (arith, f.auto.order, s.requires.4) in
    (subst (λ (t : ℕ). (s.args.n + t) * row_words ≤ length s.args.rows.now) (sym size) s.requires.0.fits, place-asked s.requires.0 order places e.0 e.1 e.2)

pub returns : goal.returns
returns c =
    let s = c in
    let f = c.find_spots in
    let order = f.new.order in
    let places = f.new.places in
    let e = f.ensures in
    let size : length order ≡ length s.args.sorted.now = omega (arith, f.auto.order, s.requires.4) in
    let p = c.place.ensures in
    rows-over s.requires.0 order places e.0 e.1 e.2 size (omega arith) p.0 p.1
