-- The rule of a link. What was put is what was got, followed by what the queue holds.
-- At most one pass may put, and it knows all that was put; at most one may get, and it knows all that was got.
-- Of the other side a pass knows a beginning, which may grow when it moves a packet: the proof of that step sees all
-- that stands.
use Rattle.std.specs.Prelude.{◌≡◌, ℕ, Bool, true, false, List, [], ◌∷◌, ◌++◌}
use mathlib.Core.Option.{some}
use lib.ListN.{get_elem?}
use Rattle.chorus_link.specs.declared.rule.Log.{Log}
use Rattle.chorus_link.specs.Lists.{StartsWith}

module _ {P : Type 0} where
  abbrev pub log : Bool → Bool → List P → List P → Log P
  log puts gets put got = record { puts = puts; gets = gets; put = put; got = got }

  -- what a pass knows is true, and it knows all of the side on which it may act
  pub record Knows (writer reader : ℕ) (put got : List P) (pass : ℕ) (v : Log P) : Type 0 where
    pub was_put : StartsWith put v.put
    pub was_got : StartsWith got v.got
    pub putter : v.puts ≡ true → (pass ≡ writer) × (v.put ≡ put)
    pub getter : v.gets ≡ true → (pass ≡ reader) × (v.got ≡ got)

  -- the rule, of what the queue holds, oldest first, and of the view of each pass
  pub record Linked (items : List P) (views : List (Log P)) : Type 0 where
    pub writer : ℕ
    pub reader : ℕ
    pub put : List P
    pub got : List P
    pub in_order : put ≡ got ++ items
    pub known : (pass : ℕ) (v : Log P) → get_elem? views pass ≡ some v → Knows writer reader put got pass v

  -- the split that makes the two ends
  abbrev pub sender_log : Log P → Log P
  sender_log v = log true false v.put v.got

  abbrev pub receiver_log : Log P → Log P
  receiver_log v = log false true v.put v.got

  -- the join of the two ends
  abbrev pub both_log : Log P → Log P → Log P
  both_log v w = log true true v.put w.got

  abbrev pub spent_log : Log P
  spent_log = log false false [] []

  -- a push: x was put last, and what the pass knows to be got may be more
  pub record PutThen (v : Log P) (x : P) (w : Log P) : Type 0 where
    pub roles : (w.puts ≡ v.puts) × (w.gets ≡ v.gets)
    pub put : w.put ≡ v.put ++ x ∷ []
    pub got : StartsWith w.got v.got

  -- at a moment when the queue held these items: they are the last that were put, and what was got begins with what the
  -- pass knew
  pub record WasPut (v : Log P) (items : List P) : Type 0 where
    pub got : List P
    pub in_order : v.put ≡ got ++ items
    pub known : StartsWith got v.got

  -- a pop: x was got, and what the pass knows to be put may be more; it begins with what was got
  pub record GotThen (v : Log P) (x : P) (w : Log P) : Type 0 where
    pub roles : (w.puts ≡ v.puts) × (w.gets ≡ v.gets)
    pub got : w.got ≡ v.got ++ x ∷ []
    pub put : StartsWith w.put v.put
    pub within : StartsWith w.put w.got
    pub whole : v.puts ≡ true → w.put ≡ v.put

  -- at a moment when the queue held these items: they follow what was got, and what was put begins with what the pass
  -- knew
  pub record WasGot (v : Log P) (items : List P) : Type 0 where
    pub put : List P
    pub in_order : put ≡ v.got ++ items
    pub known : StartsWith put v.put
    pub whole : v.puts ≡ true → put ≡ v.put
