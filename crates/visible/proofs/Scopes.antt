-- Visibility by entries: a row is visible where no entry overwrites it.
use mathlib.Core.Path.{◌≡◌, refl, ap}
use mathlib.Core.Bool.{Bool, not, ◌&&◌}
use mathlib.Core.List.{List, [], ◌∷◌}
use Prim.Native.Nat.{ℕ}
use Rattle.model.specs.Basic.{any, all, filter}
use Rattle.model.specs.Id.{covered}
use Rattle.model.specs.Row.{Row, Succ, id_of, is_set_or_make, carries}
use Rattle.model.specs.Document.{Document}
use Rattle.model.specs.Visible.{covered_succs, visible}
use Rattle.laws.proofs.Tests.{by-test, is_true, is_false}
use Rattle.visible.specs.Scope.{scope, covers, overwrites}

none-lacks : (clock : List ℕ) (id : ℕ) (l : List Succ) → all carries (filter (covers clock id) l) ≡ not (any (overwrites clock id) l)
unfolding overwrites
none-lacks clock id [] = refl
none-lacks clock id (s ∷ l) =
    let ih = none-lacks clock id l in
    by-test (covers clock id s)
    (λ t. by-test (carries s)
    (λ u. rw (is_true (covers clock id s) t, is_true (carries s) u) ih)
    (λ u. rw (is_true (covers clock id s) t, is_false (carries s) u)))
    (λ t. rw (is_false (covers clock id s) t) ih)

pub visible_of : (clock : List ℕ) (d : Document) (r : Row) → visible clock d r ≡ (is_set_or_make r && covered clock (id_of r) && not (any (overwrites clock (id_of r)) d.succs))
unfolding visible covered_succs covers
visible_of clock d r = ap (λ (b : Bool). is_set_or_make r && covered clock (id_of r) && b) (none-lacks clock (id_of r) d.succs)

pub visible_is : (clock : List ℕ) (succs : List Succ) (r : Row) → visible clock (scope succs) r ≡ (is_set_or_make r && covered clock (id_of r) && not (any (overwrites clock (id_of r)) succs))
unfolding scope
visible_is clock succs r = visible_of clock (scope succs) r
