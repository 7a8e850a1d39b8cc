-- What the tables have of a past, and of one entry more.
use Rattle.std.proofs.Common.{◌≡◌, ℕ, suc, ◌<◌, ◌≤◌, ◌&&◌, not, Bool, true, false, cond, List, [], ◌∷◌, ◌++◌, length, Option, None, Some, refl, sym, ap, ◌∙◌, arith}
use Rattle.chorus_ui.specs.declared.ui.Ui.{Ui}
use Rattle.chorus_entry.specs.declared.entry.Entry.{Entry}
use Rattle.chorus_entry.specs.declared.id.MsgId.{MsgId}
use Rattle.chorus_entry.specs.declared.act.Act.{Act}
use Rattle.chorus_world.specs.Views.{is_about, is_on}
use Rattle.law_picture.specs.declared.row.Row.{Row}
use Rattle.law_picture.specs.Causes.{caused_by, from_elsewhere, goes_on_by, latest, port_arrived, row_of}
use Rattle.law_picture.specs.Bars.{bar, row_in, waits_after, waits_in}
use Rattle.law_picture.proofs.Arrows.{latest_none}
use Rattle.law_picture.proofs.Standing.{latest_on}
use Rattle.chorus_entry.specs.Act.{held_port_of, message_of}
use Rattle.chorus_entry.specs.MsgId.{same_id}
use Rattle.std.specs.HashMap.{get}
use Rattle.law_picture.specs.declared.bar.Bar.{Bar}
use Rattle.picture_rows.specs.Columns.{ColumnShape, right_edge}
use Rattle.picture_rows.specs.Edge.{tick_at, tick_of}
use Rattle.picture_rows.specs.Rows.{row_y}
use Rattle.picture_rows.specs.Setup.{is_setup}
use Rattle.picture_rows.specs.Bodies.{note}
use Rattle.picture_rows.specs.Shapes.{arrow, arrow_text, bar_above, count, count_by, entry_at, ground_text, ground_with, is_new_clock, marks_text, marks_with, tick}
use Rattle.picture_rows.specs.declared.limits.TheConstants.{ENTRIES_LIMIT}
use Rattle.picture_rows.specs.declared.tables.Before.{Before}
use Rattle.picture_rows.specs.declared.tables.Tables.{Tables}
use Rattle.picture_rows.specs.Tables.{AreTables, Grows, HaveFew, IsBefore, about_row, bar_before, bar_ended, bar_next, bar_of, cause_in, ground_behind, ground_by, last_row, marks_behind, marks_by, row_next}

-- no more messages wait than there are entries
fewer : (a : Act) (n m : ℕ) → n ≤ m → waits_after a n ≤ suc m
fewer a n m h = grind arith

pub waits_few : (q : Ui) (past : List Entry) → waits_in (bar q past) ≤ length past
waits_few q [] = omega arith
waits_few q (e ∷ past) = go (is_on (Some q) e) refl (waits_few q past)
  where
    go : (b : Bool) → is_on (Some q) e ≡ b → waits_in (bar q past) ≤ length past → waits_in (bar q (e ∷ past)) ≤ length (e ∷ past)
    go true h old = rw h (fewer e.act (waits_in (bar q past)) (length past) old)
    go false h old = rw h (omega (arith, old))

-- so there is room for one more
pub have_few : (t : Tables) (past : List Entry) → AreTables t past → t.number < ENTRIES_LIMIT → HaveFew (bar_of t.bars)
have_few t past h few q = omega (arith, ap waits_in (h.bars q), waits_few q past, h.number, few)

-- What one entry more makes of the tables.

abbrev row_at : ℕ → ℕ → ℕ → Row
row_at n p c = record { number = n; place = p; clock = c }

-- the tables follow
pub grows : (s t : Tables) (past : List Entry) (e : Entry) → AreTables s past → Grows e s t → AreTables t (e ∷ past)
grows s t past e h g = record {
  number = omega (arith, g.number, h.number);
  clock = g.clock;
  messages = λ x. g.messages x ∙ ap (λ o. cond (is_about (Some x) e) (Some (row_next s e)) o) (h.messages x)
      ∙ ap (λ k. cond (is_about (Some x) e) (Some k) (latest (is_about (Some x)) past)) here;
  bars = λ q. g.bars q ∙ ap (λ o. cond (is_on (Some q) e) (Some (bar_next (row_next s e) e.act o)) o) (h.bars q)
      ∙ ap (λ k. cond (is_on (Some q) e) (Some (bar_next k e.act (bar q past))) (bar q past)) here;
}
  where
    here : row_next s e ≡ row_of past e
    here = ap (λ n. row_at n e.place e.clock) h.number

-- What they say of an entry is what the past says.

message_is : (t : Tables) (past : List Entry) (o : Option MsgId) → AreTables t past → about_row (get same_id t.messages) o ≡ latest (is_about o) past
message_is t past None h = sym (latest_none past)
message_is t past (Some x) h = h.messages x

last_is : (t : Tables) (past : List Entry) (p : Option Ui) (o : Option MsgId) → AreTables t past
    → last_row (bar_of t.bars) p (about_row (get same_id t.messages) o) ≡ latest (goes_on_by p o) past
last_is t past (Some q) o h = ap row_in (h.bars q) ∙ sym (latest_on q past)
last_is t past None o h = message_is t past o h

cause_is : (t : Tables) (past : List Entry) (e : Entry) → AreTables t past → cause_in t e ≡ caused_by past e
cause_is t past e h = ap (from_elsewhere e) (last_is t past (port_arrived e.act) (message_of e.act) h)

pub bars_are : (t : Tables) (past : List Entry) → AreTables t past → bar_of t.bars ≡ (λ q. bar q past)
bars_are t past h = λ i q. h.bars q i

ground_is : (cs : List ColumnShape) (t : Tables) (past : List Entry) (e : Entry) → AreTables t past → ground_by cs t e ≡ ground_text cs past e
ground_is cs t past e h = λ i. ground_with cs (bars_are t past h i) (h.number i) (h.clock i) e

marks_are : (cs : List ColumnShape) (t : Tables) (past : List Entry) (e : Entry) (text : List ℕ) → AreTables t past → text ≡ note (e ∷ past) e.act
    → marks_by cs t e text ≡ marks_text cs past e
marks_are cs t past e text h said = λ i. marks_with cs (bars_are t past h i) (h.number i) e (cause_is t past e h i) (said i)

-- A row by what they said before it is one by what they say.

ended_is : (cs : List ColumnShape) (bars : Ui → Option Bar) (y : ℕ) (p : Option Ui) → bar_ended cs y p (bar_before bars p) ≡ bar_above cs bars y p
ended_is cs bars y None = refl
ended_is cs bars y (Some q) = refl

counted_is : (cs : List ColumnShape) (bars : Ui → Option Bar) (y : ℕ) (e : Entry) (p : Option Ui) → count_by cs y e p (bar_before bars p) ≡ count cs bars y e p
counted_is cs bars y e None = refl
counted_is cs bars y e (Some q) = refl

thin_is : (cs : List ColumnShape) (y : ℕ) (b : Bool) → tick_of (right_edge cs) y b ≡ tick cs y b
unfolding tick tick_at
thin_is cs y true = refl
thin_is cs y false = refl

abbrev given : Option Row → Option ℕ → ℕ → Option Bar → Before
given cause clock number b = record { number = number; clock = clock; cause = cause; bar = b }

module _ (right : ℕ) (cs : List ColumnShape) (t : Tables) (past : List Entry) (e : Entry) (b : Before) (edge : right ≡ right_edge cs) (tables : AreTables t past) (h : IsBefore t e b) where
  pub ground_behind_is : ground_behind right cs b e ≡ ground_text cs past e
  ground_behind_is =
      (λ i. ground_behind (edge i) cs (given (h.cause i) (h.clock i) (h.number i) (h.bar i)) e)
      ∙ (λ i. thin_is cs (row_y t.number) (is_new_clock t.clock e.clock && not (is_setup e)) i
      ++ ended_is cs (bar_of t.bars) (row_y t.number) (held_port_of e.act) i)
      ∙ ground_is cs t past e tables

  pub arrow_behind_is : arrow cs b.number e b.cause ≡ arrow_text cs past e
  arrow_behind_is =
      (λ i. arrow cs (h.number i) e (h.cause i)) ∙ (λ i. arrow cs (tables.number i) e (cause_is t past e tables i))

  pub marks_behind_is : (text : List ℕ) → text ≡ note (e ∷ past) e.act → marks_behind right cs b e text ≡ marks_text cs past e
  marks_behind_is text said =
      (λ i. marks_behind (edge i) cs (given (h.cause i) (h.clock i) (h.number i) (h.bar i)) e text)
      ∙ (λ i. entry_at cs t.number e (cause_in t e) text ++ counted_is cs (bar_of t.bars) (row_y t.number) e (held_port_of e.act) i)
      ∙ marks_are cs t past e text tables said
