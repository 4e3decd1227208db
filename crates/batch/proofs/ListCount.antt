-- A list's walk puts out each of its new rows once.
use mathlib.Core.Path.{◌≡◌, refl, ap}
use mathlib.Core.List.{List, [], ◌∷◌, ◌++◌, map}
use Prim.Native.Nat.{ℕ, ◌+◌, ◌<◌}
use native.Mathlib.Omega.{arith}
use lib.ListN.{length, length-append}
use Rattle.model.specs.Row.{Row, id_of}
use Rattle.laws.proofs.Members.{All}
use Rattle.laws.proofs.Perms.{perm-length}
use Rattle.laws.proofs.Untangle.{Event, old, new, row_in, olds, runs-olds}
use Rattle.laws.proofs.UntangledAll.{runs-all}
use Rattle.laws.proofs.ListMerge.{NewRows}
use Rattle.laws.proofs.Placing.{news_in}
use Rattle.batch.specs.Walk.{list_out}
use Rattle.batch.proofs.DocWalk.{list-runs}

-- what is put out is old or new
old-or-new : (out : List Event) → length (map row_in out) ≡ length (olds out) + length (news_in out)
old-or-new [] = refl
old-or-new (old r ∷ out) = omega (arith, old-or-new out)
old-or-new (new r ∷ out) = omega (arith, old-or-new out)

pub list_count : (o : ℕ) (doc news : List Row) → NewRows o doc news → All (λ r. 0 < id_of r) (doc ++ news) → length (news_in (list_out news doc)) ≡ length news
list_count o doc news n z =
    let r = list-runs news doc n.apart z in
    counted (list_out news doc) (perm-length (runs-all news doc n.plain n.known r)) (ap length (runs-olds r))
  where
    counted : (out : List Event) → length (map row_in out) ≡ length (doc ++ news) → length (olds out) ≡ length doc → length (news_in out) ≡ length news
    counted out a b = omega (arith, a, b, old-or-new out, length-append doc news)
