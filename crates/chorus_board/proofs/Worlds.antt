-- In a run of the world no entry tells of a port that the layout cannot make.
use Rattle.std.proofs.Common.{ℕ, zero, suc, ◌≡◌, Bool, true, false, true≢false, ◌&&◌, if◌then◌else◌, List, [], ◌∷◌, ◌++◌, length, reverse, slice_get, Option, Some, None, refl, sym, ◌∙◌, ap, subst, arith, inl, inr}
use Rattle.std.proofs.lemmas.Bool.{and_from, cases_lt}
use Rattle.std.proofs.lemmas.List.{reverse-append, reverse-reverse, length-append}
use mathlib.Core.List.{IsPrefix}
use Rattle.chorus_ui.specs.declared.kind.Kind.TheVariants.{Port}
use Rattle.chorus_ui.specs.declared.layout.Layout.{Layout}
use Rattle.chorus_ui.specs.declared.ui.Ui.{Ui}
use Rattle.chorus_ui.specs.Kind.{same_kind}
use Rattle.chorus_ui.specs.Layout.{IsLayout, can_make_port, names_port}
use Rattle.chorus_entry.specs.declared.entry.Entry.{Entry}
use Rattle.chorus_entry.specs.Order.{is_at}
use Rattle.chorus_world.specs.declared.place.Location.{Location}
use Rattle.chorus_world.specs.LocationLaws.{path_of}
use Rattle.chorus_world.specs.Order.{IsCausal}
use Rattle.chorus_world.specs.Places.{located, named_location}
use Rattle.chorus_world.specs.Ports.{PortState, fate}
use Rattle.chorus_world.specs.Steps.{is_legal}
use Rattle.chorus_world.specs.Views.{at, on}
use Rattle.chorus_world.proofs.Messages.MessageSteps.{locates}
use Rattle.chorus_world.proofs.Ports.MadePorts.{MadeWell, made-well, causal-older}
use Rattle.chorus_world.proofs.Steps.LegalLemmas.{legal_parts}
use Rattle.chorus_board.specs.Located.{located_after, located_on}
use Rattle.chorus_board.proofs.Fronts.{prefix_shorter, prefix_whole}

-- a beginning of a place's entries is what an older run has there
record Older (l : Layout) (p : ℕ) (front : List Entry) : Type 0 where
  past : List Entry
  legal : is_legal l past ≡ true
  causal : IsCausal past
  is : front ≡ reverse (at p past)

older : (l : Layout) (p : ℕ) (past front : List Entry) → is_legal l past ≡ true → IsCausal past → IsPrefix front (reverse (at p past)) → Older l p front
older l p [] [] legal causal h = record { past = []; legal = legal; causal = causal; is = refl }
older l p [] (f ∷ front) legal causal h = absurd (cc (h.1))
older l p (e ∷ past) front legal causal h = by (λ g. older l p past front (legal_parts l e past legal).1 (causal-older e past causal) g) (is_at p e) refl
  where
    all : List Entry
    all = reverse (at p (e ∷ past))

    by : (IsPrefix front (reverse (at p past)) → Older l p front) → (b : Bool) → is_at p e ≡ b → Older l p front
    by rest false is = rest (subst (λ (es : List Entry). IsPrefix front (reverse es)) (ap (λ (b : Bool). if b then e ∷ at p past else at p past) is) h)
    by rest true is =
        let here : all ≡ reverse (at p past) ++ e ∷ [] = ap (λ (b : Bool). reverse (if b then e ∷ at p past else at p past)) is ∙ reverse-append (e ∷ []) (at p past) in
        let len = ap length here ∙ length-append (reverse (at p past)) (e ∷ []) in
        elim (cases_lt (length (reverse (at p past))) (length front)) [
          | inl more ↦ record { past = e ∷ past; legal = legal; causal = causal; is = prefix_whole front all h (omega (arith, more, len)) }
          | inr le ↦ rest (prefix_shorter front (reverse (at p past)) all h (e ∷ [], sym here) le)
        ]

single : (x k z : ℕ) → slice_get (x ∷ []) k ≡ Some z → (z ≡ x) × (k ≡ 0)
single x zero z at = (cc (at), refl)
single x (suc k) z at = absurd (cc (at))

unmade : (l : Layout) (past : List Entry) (p : ℕ) (q : Ui) → IsLayout l → is_legal l past ≡ true → IsCausal past → can_make_port l q ≡ false → named_location l q ≡ located l q (at p past)
unmade l past p q shape legal causal not_listed = go (fate (on q past)) (made-well l past q shape legal causal) (locates l past p q shape legal)
  where
    go : (o : Option PortState) → MadeWell l q o (on q past) → slice_get (path_of l q o) (located l q (at p past)).hop ≡ Some (located l q (at p past)).to → named_location l q ≡ located l q (at p past)
    go None m found =
        let two = single (named_location l q).to (located l q (at p past)).hop (located l q (at p past)).to found in
        λ i. record { to = sym two.0 i; hop = sym two.1 i }
    go (Some f) m found = absurd (true≢false (sym m.listed ∙ not_listed))

pub tells-of-world : (l : Layout) (past : List Entry) (p : ℕ) (q : Ui) (front : List Entry) → IsLayout l → is_legal l past ≡ true → IsCausal past → q.kind ≡ Port → IsPrefix front (reverse (at p past))
    → located_on l front q ≡ located_after l front q
unfolding located_after
tells-of-world l past p q front shape legal causal kind h = by (can_make_port l q) refl
  where
    choice : Bool → Location
    choice b = if b then located_after l front q else named_location l q

    by : (b : Bool) → can_make_port l q ≡ b → choice (names_port l q) ≡ located_after l front q
    by true can = ap choice (and_from (same_kind q.kind Port) (can_make_port l q) (ap (λ k. same_kind k Port) kind) can)
    by false cannot =
        let o = older l p past front legal causal h in
        let none : names_port l q ≡ false = ap (λ k. same_kind k Port && can_make_port l q) kind ∙ cannot in
        ap choice none ∙ unmade l o.past p q shape o.legal o.causal cannot
        ∙ ap (located l q) (sym (reverse-reverse (at p o.past)) ∙ ap reverse (sym o.is))
