-- A fact of legal lists: a port that was made has the name of a port.
use Rattle.std.proofs.Common.{◌≡◌, Bool, true, false, cond, List, [], ◌∷◌, Some, refl, subst}
use Rattle.std.proofs.lemmas.Bool.{and_parts}
use Rattle.chorus_ui.specs.declared.ui.Ui.{Ui}
use Rattle.chorus_ui.specs.declared.layout.Layout.{Layout}
use Rattle.chorus_entry.specs.declared.entry.Entry.{Entry}
use Rattle.chorus_entry.specs.declared.act.Act.{Act}
use Rattle.chorus_entry.specs.declared.act.Act.TheVariants as acts
use Rattle.chorus_entry.specs.Act.{held_port_of}
use Rattle.chorus_ui.specs.NameKind.{is_port, is_actor}
use Rattle.chorus_entry.specs.Kinds.{has_kinds}
use Rattle.chorus_world.specs.Views.{on, is_on}
use Rattle.chorus_world.specs.Ports.{PortState, fate}
use Rattle.chorus_world.specs.Steps.{is_legal}
use Rattle.chorus_world.proofs.Steps.LegalLemmas.{on_is}
use Rattle.chorus_world.proofs.Messages.SentFacts.{legal-kinds}

-- the entries on the line of a port name it as a port
kinds-name : (a : Act) (q : Ui) → held_port_of a ≡ Some q → has_kinds a ≡ true → is_port q ≡ true
kinds-name (acts.Make r b n) q m h = let same : r ≡ q = cc in subst (λ z. is_port z ≡ true) same (and_parts (is_port r) (is_actor b) h).0
kinds-name (acts.Accept x r n) q m h = let same : r ≡ q = cc in subst (λ z. is_port z ≡ true) same h
kinds-name (acts.Full x r n) q m h = let same : r ≡ q = cc in subst (λ z. is_port z ≡ true) same h
kinds-name (acts.Already x r) q m h = let same : r ≡ q = cc in subst (λ z. is_port z ≡ true) same h
kinds-name (acts.ClientsFull x r) q m h = let same : r ≡ q = cc in subst (λ z. is_port z ≡ true) same h
kinds-name (acts.Take r n x) q m h = let same : r ≡ q = cc in subst (λ z. is_port z ≡ true) same h
kinds-name (acts.Empty r) q m h = let same : r ≡ q = cc in subst (λ z. is_port z ≡ true) same h
kinds-name (acts.Rehome r b) q m h = let same : r ≡ q = cc in subst (λ z. is_port z ≡ true) same (and_parts (is_port r) (is_actor b) h).0
kinds-name (acts.Depart r to b hop) q m h = let same : r ≡ q = cc in subst (λ z. is_port z ≡ true) same (and_parts (is_port r) (is_actor b) h).0
kinds-name (acts.Arrive r hop) q m h = let same : r ≡ q = cc in subst (λ z. is_port z ≡ true) same h
kinds-name (acts.Delete r xs) q m h = let same : r ≡ q = cc in subst (λ z. is_port z ≡ true) same h
kinds-name a q m h = absurd (cc)

pub line-named : (l : Layout) (past : List Entry) (q : Ui) (f : PortState) → is_legal l past ≡ true → fate (on q past) ≡ Some f → is_port q ≡ true
line-named l [] q f h e = absurd (cc)
line-named l (k ∷ past) q f h e = go (is_on (Some q) k) refl e (λ g. line-named l past q g (legal-kinds l k past h).1)
  where
    go : (b : Bool) → is_on (Some q) k ≡ b → fate (cond b (k ∷ on q past) (on q past)) ≡ Some f → ((g : PortState) → fate (on q past) ≡ Some g → is_port q ≡ true) → is_port q ≡ true
    go false t i ih = ih f i
    go true t i ih = kinds-name k.act q (on_is q (held_port_of k.act) t) (legal-kinds l k past h).0
