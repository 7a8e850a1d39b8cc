-- Which lists an entry leaves as they are.
use Rattle.std.proofs.Common.{◌≡◌, ◌==◌, Bool, true, false, cond, List, [], ◌∷◌, ◌++◌, Option, Some, None, refl, sym, ◌∙◌, ap}
use Rattle.std.specs.Prelude.{Result, Ok, Err, OnOk, if◌then◌else◌, ◌&&◌}
use Rattle.std.specs.Option.{option_eq}
use Rattle.std.proofs.lemmas.List.{append-nil}
use Rattle.chorus_ui.specs.declared.ui.Ui.{Ui}
use Rattle.chorus_ui.specs.Name.{same_ui}
use Rattle.chorus_entry.specs.declared.entry.Entry.{Entry}
use Rattle.chorus_entry.specs.declared.id.MsgId.{MsgId}
use Rattle.chorus_entry.specs.declared.message.Message.{Message}
use Rattle.chorus_entry.specs.declared.dest.Dest.{Dest}
use Rattle.chorus_entry.specs.declared.dest.Dest.TheVariants.{Port, All, One, OneAt}
use Rattle.chorus_entry.specs.Dest.{group_in}
use Rattle.chorus_entry.specs.declared.act.Act.{Act}
use Rattle.chorus_entry.specs.declared.act.Act.TheVariants.{Post, Choose, Join}
use Rattle.chorus_entry.specs.Act.{held_port_of}
use Rattle.chorus_entry.specs.Same.{are_same}
use Rattle.chorus_world.specs.Views.{is_on}
use Rattle.chorus_world.specs.Places.{sent_by}
use Rattle.chorus_world.specs.Groups.{post_to}
use Rattle.chorus_world.specs.Ports.{PortState, fate_after}
use Rattle.checker_rows.specs.Lines.{sent_by_line}
use Rattle.checker_rows.specs.Keys.{same_line}
use Rattle.checker_ledger.specs.Asks.{asked_by, direct}
use Rattle.checker_ledger.specs.Groups.{GroupRow, joined_here}
use Rattle.checker_rows.proofs.KeyLemmas.{ui_sym}
use Rattle.checker_ledger.specs.Ties.{grows}
use Rattle.checker_rows.specs.declared.keys.NameAt.{NameAt}
use Rattle.checker_rows.specs.declared.keys.LineKey.{LineKey}
use Rattle.checker_ledger.specs.declared.tables.Growing.{Growing}
use Rattle.checker_ledger.specs.declared.tables.Growing.TheVariants.{Ports, Groups, Asks, Lines}

abbrev pub is_ports : Growing → Bool
is_ports Ports = true
is_ports _ = false

abbrev pub is_groups : Growing → Bool
is_groups Groups = true
is_groups _ = false

abbrev pub is_asks : Growing → Bool
is_asks Asks = true
is_asks _ = false

abbrev pub is_lines : Growing → Bool
is_lines Lines = true
is_lines _ = false

no_port : (a : Act) → is_ports (grows a) ≡ false → held_port_of a ≡ None
no_port (Join g q) h = refl
no_port (Choose x g qs) h = refl
no_port (Post m (Port q)) h = refl
no_port (Post m (All g)) h = refl
no_port (Post m (One g)) h = refl
no_port (Post m (OneAt g s)) h = refl
no_port _ h = absurd (cc)

no_join : (g : Ui) (a : Act) (r : GroupRow) → is_groups (grows a) ≡ false → joined_here g a r ≡ r
no_join g (Join h q) r k = absurd (cc)
no_join g _ r k = refl

no_ask : (g : Ui) (a : Act) → is_asks (grows a) ≡ false → post_to g a ≡ []
no_ask g (Post m (Port q)) h = refl
no_ask g (Post m (All k)) h = absurd (cc)
no_ask g (Post m (One k)) h = absurd (cc)
no_ask g (Post m (OneAt k s)) h = absurd (cc)
no_ask g _ h = refl

no_send : (a : Act) → is_lines (grows a) ≡ false → sent_by a ≡ []
no_send (Choose x g qs) h = absurd (cc)
no_send (Post m (Port q)) h = absurd (cc)
no_send (Post m (All g)) h = refl
no_send (Post m (One g)) h = refl
no_send (Post m (OneAt g s)) h = refl
no_send _ h = refl

pub ports_stay : (e : Entry) (q : Ui) (o : Option PortState) → is_ports (grows e.act) ≡ false → o ≡ cond (is_on (Some q) e) (fate_after e.place e.act o) o
ports_stay e q o h = sym (ap (λ m. cond (are_same same_ui (Some q) m) (fate_after e.place e.act o) o) (no_port e.act h))

same_case : (b : Bool) (r s : GroupRow) → s ≡ r → r ≡ cond b s r
same_case true r s h = sym h
same_case false r s h = refl

pub groups_stay : (e : Entry) (k : NameAt) (r : GroupRow) → is_groups (grows e.act) ≡ false → r ≡ cond (e.place == k.place) (joined_here k.name e.act r) r
groups_stay e k r h = same_case (e.place == k.place) r (joined_here k.name e.act r) (no_join k.name e.act r h)

nothing : (b : Bool) → (let xs : List MsgId = cond b [] [] in xs) ≡ []
nothing true = refl
nothing false = refl

pub lines_stay : (e : Entry) (k : LineKey) (xs : List MsgId) → is_lines (grows e.act) ≡ false → xs ≡ xs ++ sent_by_line e.place k (sent_by e.act)
lines_stay e k xs h = sym (ap (λ ms. xs ++ sent_by_line e.place k ms) (no_send e.act h) ∙ (ap (λ ys. xs ++ ys) (nothing (e.place == k.place)) ∙ append-nil xs))

no_ids : (b : Bool) (o : Option Ui) → cond b (direct o []) [] ≡ []
no_ids true None = refl
no_ids true (Some g) = refl
no_ids false o = refl

pub asks_stay : (e : Entry) (k : LineKey) (xs : List MsgId) → is_asks (grows e.act) ≡ false → xs ≡ xs ++ asked_by k e
asks_stay e k xs h =
    sym (ap (λ ms. xs ++ cond (e.place == k.place) (direct k.route ms) []) (no_ask k.name e.act h) ∙ (ap (λ ys. xs ++ ys) (no_ids (e.place == k.place) k.route) ∙ append-nil xs))

-- a post to a group is put behind the others in its line

put_case : (a b : Bool) (o : Option Ui) (xs : List MsgId) (x : MsgId) → cond (a && (b && option_eq same_ui None o)) (xs ++ x ∷ []) xs ≡ xs ++ cond a (direct o (if b then x ∷ [] else [])) []
put_case true true None xs x = refl
put_case true true (Some r) xs x = sym (append-nil xs)
put_case true false None xs x = sym (append-nil xs)
put_case true false (Some r) xs x = sym (append-nil xs)
put_case false b o xs x = sym (append-nil xs)

pub ask_put : (e : Entry) (m : Message) (d : Dest) (g : Ui) (j k : LineKey) (xs ys : List MsgId)
    → e.act ≡ Post m d → group_in d ≡ Some g → j ≡ record { place = e.place; name = g; route = None }
    → ys ≡ cond (same_line j k) (xs ++ m.id ∷ []) xs → ys ≡ xs ++ asked_by k e
ask_put e m d g j k xs ys act to key put =
    let none : Option Ui = None in
    put
    ∙ (ap (λ i. cond (same_line i k) (xs ++ m.id ∷ []) xs) key
    ∙ (ap (λ b. cond ((e.place == k.place) && (b && option_eq same_ui none k.route)) (xs ++ m.id ∷ []) xs) (ui_sym g k.name)
    ∙ (put_case (e.place == k.place) (same_ui k.name g) k.route xs m.id
    ∙ sym (ap (λ a. xs ++ cond (e.place == k.place) (direct k.route (post_to k.name a)) []) act
    ∙ ap (λ o. xs ++ cond (e.place == k.place) (direct k.route (if are_same same_ui (Some k.name) o then m.id ∷ [] else [])) []) to))))

pub on_ok : {A E : Type 0} {P Q : Type 0} (r : Result A E) → OnOk r P → (P → Q) → OnOk r Q
on_ok (Ok a) h f = f h
on_ok (Err e) h f = tt

pub on_oks : {A E : Type 0} {P Q R : Type 0} (r : Result A E) → OnOk r P → OnOk r Q → (P → Q → R) → OnOk r R
on_oks (Ok a) h k f = f h k
on_oks (Err e) h k f = tt
