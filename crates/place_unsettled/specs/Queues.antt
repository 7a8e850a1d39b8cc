-- The messages that wait, by port and route.
use Rattle.std.specs.Prelude.{ℕ, ◌-◌, ◌==◌, ◌&&◌, Bool, cond, List, [], ◌∷◌, ◌++◌, drop, length, Option, None, is_none, unwrap_or, slice_get}
use Rattle.std.specs.declared.cmp.Ordering.{Ordering}
use Rattle.std.specs.Ordering.{eq_by_cmp, then_cmp, on}
use Rattle.std.specs.Option.{option_cmp, option_map}
use Rattle.std.specs.Map.{lookup}
use Rattle.chorus_ui.specs.Name.{name_cmp}
use Rattle.chorus_entry.specs.Same.{is_number}
use Rattle.place_unsettled.specs.declared.wait.Key.{Key}
use Rattle.place_unsettled.specs.declared.wait.Wait.{Wait}

-- the messages of one port and route in the order made, and the place that the first is under way to
pub record Queue : Type 0 where
  pub tried : Option ℕ
  pub waits : List Wait

-- a queue, and how many messages more need no memory there
pub record Row : Type 0 where
  pub queue : Queue
  pub room : ℕ

abbrev pub empty_queue : Queue
empty_queue = record { tried = None; waits = [] }

abbrev pub empty_row : Row
empty_row = record { queue = empty_queue; room = 0 }

-- nothing waits, and nothing is under way
abbrev pub is_free : Queue → Bool
is_free q = is_none q.tried && (length q.waits == 0)

-- the first message, where it is under way to the place
abbrev pub first_under_way : ℕ → Queue → Option Wait
first_under_way to q = cond (is_number to q.tried) (slice_get q.waits 0) None

-- by port and then by route
abbrev pub key_cmp : Key → Key → Ordering
key_cmp = then_cmp (on (λ k. k.port) name_cmp) (on (λ k. k.route) (option_cmp name_cmp))

abbrev pub same_key : Key → Key → Bool
same_key k l = eq_by_cmp key_cmp k l

abbrev pub row : List (Key × Row) → Key → Row
row rows k = unwrap_or (lookup (same_key k) rows) empty_row

-- the key at this position
abbrev pub key_at : List (Key × Row) → ℕ → Option Key
key_at rows i = option_map (λ (r : Key × Row). r.0) (slice_get rows i)

-- the queue of this port and route
abbrev pub queue : List (Key × Row) → Key → Queue
queue rows k = (row rows k).queue

-- how many messages more need no memory there
abbrev pub room : List (Key × Row) → Key → ℕ
room rows k = (row rows k).room

-- what each key has, with that of k replaced by what f makes of it
abbrev pub changed : {A : Type 0} → Key → (A → A) → (Key → A) → Key → A
changed k f each l = cond (same_key k l) (f (each k)) (each l)

-- with a message behind the others
abbrev pub with_last : Wait → Queue → Queue
with_last w q = record q { waits = q.waits ++ w ∷ [] }

-- without the first; the next is not under way
abbrev pub passed : Queue → Queue
passed q = record { tried = None; waits = drop 1 q.waits }

-- with the first under way to a place, or not
abbrev pub at : Option ℕ → Queue → Queue
at to q = record q { tried = to }

-- one message fewer needs no memory
abbrev pub less_one : ℕ → ℕ
less_one n = n - 1
