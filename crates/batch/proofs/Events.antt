-- What a walk puts out in parts: its new rows and their places, part by part.
use mathlib.Core.Path.{◌≡◌, refl, sym, ap, ◌∙◌}
use mathlib.Core.List.{List, [], ◌∷◌, ◌++◌, map}
use Prim.Native.Nat.{ℕ, zero, suc, ◌+◌, ◌≤◌, ◌<◌}
use native.Mathlib.Nat.{add-zero, add-suc, suc-add}
use borrow.Author.Tests.{lt-ltb, le-ltb}
use lib.ListN.{length, get_or, drop}
use Rattle.model.specs.Row.{Row, object_of}
use Rattle.laws.proofs.Untangle.{Event, old, new, olds}
use Rattle.laws.proofs.Placing.{news_in, places_in}
use Rattle.batch.specs.Groups.{below, between, object_out, out_from}

pub news-append : (a b : List Event) → news_in (a ++ b) ≡ news_in a ++ news_in b
news-append [] b = refl
news-append (old r ∷ a) b = news-append a b
news-append (new r ∷ a) b = ap (λ (l : List Row). r ∷ l) (news-append a b)

pub news-old : (l : List Row) (b : List Event) → news_in (map old l ++ b) ≡ news_in b
news-old [] b = refl
news-old (r ∷ l) b = news-old l b

pub places-old : (k : ℕ) (l : List Row) (b : List Event) → places_in k (map old l ++ b) ≡ places_in (k + length l) b
places-old k [] b = rw (add-zero k)
places-old k (r ∷ l) b = places-old (suc k) l b ∙ ap (λ (i : ℕ). places_in i b) (suc-add k (length l) ∙ sym (add-suc k (length l)))

pub places-append : (k : ℕ) (a b : List Event) → places_in k (a ++ b) ≡ places_in k a ++ places_in (k + length (olds a)) b
places-append k [] b = rw (add-zero k)
places-append k (old r ∷ a) b =
    places-append (suc k) a b ∙ ap (λ (i : ℕ). places_in (suc k) a ++ places_in i b) (suc-add k (length (olds a)) ∙ sym (add-suc k (length (olds a))))
places-append k (new r ∷ a) b = ap (λ (l : List ℕ). k ∷ l) (places-append k a b)

-- ── the next object, or none
pub out-next : (n : ℕ) (news doc : List Row) (b o : ℕ) → below b news < length news → o ≡ object_of (get_or news (below b news) [])
    → out_from (suc n) news doc b ≡ map old (between b o doc) ++ (object_out (between o (suc o) news) (between o (suc o) doc) ++ out_from n news doc (suc o))
out-next n news doc b o h e = rw (lt-ltb (below b news) (length news) h, e)

pub out_none : (n : ℕ) (news doc : List Row) (b : ℕ) → length news ≤ below b news → out_from n news doc b ≡ map old (drop (below b doc) doc)
out_none zero news doc b h = refl
out_none (suc n) news doc b h = rw (le-ltb (below b news) (length news) h)
