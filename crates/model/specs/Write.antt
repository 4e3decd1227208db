-- Operations, their keys and successor entries as the tables of cases write them down.
use Rattle.std.specs.Prelude.{ℕ, ◌+◌, ◌*◌, ◌-◌, ◌^◌, List, [], ◌∷◌, ◌++◌, length, replicate, set as changed}
use Rattle.model.specs.Sizes.{actors, max_preds, word_range, byte_range, word_bytes}
use Rattle.model.specs.Kinds.{map_key, list_key, make_map, set, make_list, delete, increment, null_kind, signed_kind}
use Rattle.model.specs.Row.{Op, Succ}

-- counter # actor
infix 80 ◌#◌
abbrev pub ◌#◌ : ℕ → ℕ → ℕ
c # a = c * actors + a

-- a map key of one byte; an element. Kind of key, element named, length, words.
abbrev pub key : ℕ → List ℕ
key byte = map_key ∷ 0 ∷ 1 ∷ byte * byte_range ^ (word_bytes - 1) ∷ 0 ∷ 0 ∷ []

abbrev pub at : ℕ → List ℕ
at e = list_key ∷ e ∷ 0 ∷ 0 ∷ 0 ∷ 0 ∷ []

-- a map key by its length and three words; one of two bytes
abbrev pub long_key : ℕ → ℕ → ℕ → ℕ → List ℕ
long_key size first second third = map_key ∷ 0 ∷ size ∷ first ∷ second ∷ third ∷ []

abbrev pub key2 : ℕ → ℕ → List ℕ
key2 byte next = long_key 2 (byte * byte_range ^ (word_bytes - 1) + next * byte_range ^ (word_bytes - 2)) 0 0

-- id, object, key, insert flag, action, kind of value, value, predecessors
abbrev pub op : ℕ → ℕ → List ℕ → ℕ → ℕ → ℕ → ℕ → List ℕ → Op
op i o k ins action kind v ps =
    i ∷ o ∷ k ++ ins ∷ action ∷ kind ∷ v ∷ length ps ∷ ps ++ replicate (max_preds - length ps) 0

abbrev pub makes_map : ℕ → ℕ → List ℕ → Op
makes_map i o k = op i o k 0 make_map null_kind 0 []

abbrev pub makes_list : ℕ → ℕ → List ℕ → Op
makes_list i o k = op i o k 0 make_list null_kind 0 []

abbrev pub sets : ℕ → ℕ → List ℕ → ℕ → ℕ → List ℕ → Op
sets i o k kind v ps = op i o k 0 set kind v ps

abbrev pub inserts : ℕ → ℕ → ℕ → ℕ → ℕ → Op
inserts i o e kind v = op i o (at e) 1 set kind v []

abbrev pub deletes : ℕ → ℕ → List ℕ → List ℕ → Op
deletes i o k ps = op i o k 0 delete null_kind 0 ps

abbrev pub increments : ℕ → ℕ → List ℕ → ℕ → List ℕ → Op
increments i o k v ps = op i o k 0 increment signed_kind v ps

-- a negative number's word
abbrev pub minus : ℕ → ℕ
minus n = word_range - n

-- words with the one at this number changed
abbrev pub put : ℕ → ℕ → List ℕ → List ℕ
put number w ws = changed ws number w

-- the entry of row p's successor i: with no increment, with one
abbrev pub plain : ℕ → ℕ → Succ
plain p i = p ∷ i ∷ 0 ∷ 0 ∷ []

abbrev pub carrying : ℕ → ℕ → ℕ → Succ
carrying p i v = p ∷ i ∷ 1 ∷ v ∷ []

-- the largest word
abbrev pub most : ℕ
most = word_range - 1

-- clocks: none; one that covers each actor's ids up to these counters, and none of the other actors'
abbrev pub always : List ℕ
always = []

abbrev pub until : List ℕ → List ℕ
until counters = counters ++ replicate (actors - length counters) 0
