-- Where a port is, after an entry more.
use Rattle.std.proofs.Common.{ℕ, ◌≡◌, Bool, true, false, cond, List, [], ◌∷◌, ◌++◌, Option, Some, None, refl, sym, ◌∙◌, ap}
use Rattle.std.proofs.lemmas.Bool.{true≢false, false≢true}
use Rattle.chorus_ui.specs.declared.ui.Ui.{Ui}
use Rattle.chorus_ui.specs.Name.{same_ui}
use Rattle.chorus_ui.proofs.Names.{from_same_ui, same_ui-self}
use Rattle.chorus_entry.specs.declared.entry.Entry.{Entry}
use Rattle.chorus_entry.specs.declared.act.Act.{Act}
use Rattle.chorus_entry.specs.declared.act.Act.TheVariants.{Make, Rehome, Depart, Arrive, Delete}
use Rattle.chorus_entry.specs.Act.{held_port_of}
use Rattle.chorus_entry.specs.Same.{are_same}
use Rattle.chorus_world.specs.declared.spot.Spot.TheVariants.{Moving}
use Rattle.chorus_world.specs.Views.{is_on, on}
use Rattle.chorus_world.specs.Ports.{PortState, fate, fate_after, last_of}
use Rattle.judge_seats.specs.declared.berths.Berth.{Berth}
use Rattle.judge_seats.specs.Berths.{berth, berth_after, berth_of, moved, BerthsAfter, IsBerthed}

last-pushed : (p : ℕ) (ps : List ℕ) (q : ℕ) → last_of p (ps ++ q ∷ []) ≡ q
last-pushed p [] q = refl
last-pushed p (r ∷ ps) q = last-pushed r ps q

-- the state of a port after an act tells where it is after the act
fate_berth : (p : ℕ) (a : Act) (o : Option PortState) → berth_of (fate_after p a o) ≡ berth_after p a (berth_of o)
fate_berth p (Make q a c) o = refl
fate_berth p (Depart q to a hop) None = refl
fate_berth p (Depart q to a hop) (Some f) = ap (λ n. Some (record { place = n; spot = Moving a })) (last-pushed 0 f.path to)
fate_berth p _ None = refl
fate_berth p _ (Some f) = refl

berth_case : (e : Entry) (port : List Entry) (b : Bool) → berth_of (fate (cond b (e ∷ port) port)) ≡ cond b (berth_after e.place e.act (berth_of (fate port))) (berth_of (fate port))
berth_case e port true = fate_berth e.place e.act (fate port)
berth_case e port false = refl

pub berth_grows : (past : List Entry) (e : Entry) (q : Ui) → berth (e ∷ past) q ≡ cond (is_on (Some q) e) (berth_after e.place e.act (berth past q)) (berth past q)
berth_grows past e q = berth_case e (on q past) (is_on (Some q) e)

-- and one that changes that of a port
on-moved : (a : Act) (q : Ui) → Some q ≡ moved a → held_port_of a ≡ Some q
on-moved (Make r x c) q h = sym h
on-moved (Rehome r x) q h = sym h
on-moved (Depart r to x hop) q h = sym h
on-moved (Arrive r hop) q h = sym h
on-moved (Delete r xs) q h = sym h
on-moved _ q h = absurd cc

-- where no berth comes of it, there was none
was-none : (p : ℕ) (a : Act) (q : Ui) (b : Option Berth) → Some q ≡ moved a → None ≡ berth_after p a b → b ≡ None
was-none p a q None h k = refl
was-none p (Make r x c) q (Some b) h k = absurd cc
was-none p (Rehome r x) q (Some b) h k = absurd cc
was-none p (Depart r to x hop) q (Some b) h k = absurd cc
was-none p (Arrive r hop) q (Some b) h k = absurd cc
was-none p (Delete r xs) q (Some b) h k = absurd cc
was-none p _ q (Some b) h k = absurd cc

module _ (e : Entry) (port : Ui) (old new : Ui → Option Berth) (is : Some port ≡ moved e.act) where
  on-it : (q : Ui) → is_on (Some q) e ≡ same_ui q port
  on-it q = ap (are_same same_ui (Some q)) (on-moved e.act port is)

  none-case : (q : Ui) (b : Bool) → same_ui q port ≡ b → None ≡ berth_after e.place e.act (old port) → old q ≡ cond b (berth_after e.place e.act (old q)) (old q)
  none-case q true same none =
      let it : q ≡ port = from_same_ui q port same in
      ap old it ∙ was-none e.place e.act port (old port) is none ∙ none ∙ ap (λ r. berth_after e.place e.act (old r)) (sym it)
  none-case q false same none = refl

  pub still-none : None ≡ berth_after e.place e.act (old port) → BerthsAfter e old old
  still-none none q =
      none-case q (same_ui q port) refl none ∙ ap (λ b. cond b (berth_after e.place e.act (old q)) (old q)) (sym (on-it q))

  turned-case : (q : Ui) (b c : Bool) → same_ui port q ≡ b → same_ui q port ≡ c → (x y : Option Berth) → (port ≡ q → x ≡ y) → cond b x (old q) ≡ cond c y (old q)
  turned-case q true true h k x y same = same (from_same_ui port q h)
  turned-case q false false h k x y same = refl
  turned-case q true false h k x y same = absurd (true≢false (sym (same_ui-self port) ∙ ap (λ r. same_ui r port) (from_same_ui port q h) ∙ k))
  turned-case q false true h k x y same = absurd (false≢true (sym h ∙ ap (λ r. same_ui r q) (sym (from_same_ui q port k)) ∙ same_ui-self q))

  pub berthed : (b : Berth) → Some b ≡ berth_after e.place e.act (old port) → IsBerthed port b old new → BerthsAfter e old new
  berthed b made put q =
      put q
      ∙ turned-case q (same_ui port q) (same_ui q port) refl refl (Some b) (berth_after e.place e.act (old q)) (λ same. made ∙ ap (λ r. berth_after e.place e.act (old r)) same)
      ∙ ap (λ t. cond t (berth_after e.place e.act (old q)) (old q)) (sym (on-it q))
