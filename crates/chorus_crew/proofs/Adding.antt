-- Values that are added up: what is folded so is their sum.
-- n is the nucleus, l its layout, q a port, value what a message at its position is worth, a and c are the caller's pass
-- before the call and at its end.
use Rattle.std.proofs.Common.{◌≡◌, ℕ, suc, ◌+◌, ◌%◌, ◌^◌, None, inl, inr, Result, Ok, Err, OnErr, IsErrOf, List, [], ◌∷◌, ◌++◌, length, map, refl, sym, ap, ◌∙◌, subst, arith}
use Rattle.std.specs.List.{All}
use Rattle.std.proofs.lemmas.List.Elements.{All-head, All-tail}
use Rattle.chorus_ui.specs.declared.ui.Ui.{Ui}
use Rattle.chorus_ui.specs.declared.layout.Layout.{Layout}
use Rattle.chorus_entry.specs.declared.act.Act.{Act}
use Rattle.chorus_entry.specs.declared.message.Message.{Message}
use Rattle.chorus_turn.specs.declared.knowledge.Knowledge.{Knowledge}
use Rattle.chorus_turn.specs.declared.knowledge.Note.{Note}
use Rattle.chorus_turn.specs.declared.knowledge.Placed.{Placed}
use Rattle.law_closing.specs.Places.{PlaceNote}
use Rattle.chorus_nucleus.specs.declared.nucleus.Nucleus.{Nucleus}
use Rattle.chorus_nucleus.specs.declared.pass.Pass.{Pass}
use Rattle.chorus_nucleus.specs.Passes.{layout_of, known}
use Rattle.chorus_nucleus.specs.declared.taken_message.TakenMessage.{TakenMessage}
use Rattle.chorus_nucleus.specs.Taking.{IsMiss}
use Rattle.chorus_crew.specs.declared.folding.EndedBy.{EndedBy}
use Rattle.chorus_crew.specs.declared.folding.EndedBy.TheVariants as ends
use Rattle.chorus_crew.specs.declared.folding.Folded.{Folded}
use Rattle.chorus_crew.specs.declared.handler.Handled.{Handled}
use Rattle.chorus_crew.specs.declared.fault.CrewFault.{CrewFault}
use Rattle.chorus_crew.specs.declared.fault.Unfinished.{Unfinished}
use Rattle.chorus_crew.specs.Endings.{last_acts, fault_of}
use Rattle.chorus_crew.specs.Handling.{Way, adding, after_all, took_acts, worth}
use Rattle.chorus_crew.specs.Counting.{handled_from}
use Rattle.chorus_crew.specs.Crews.{AreEach, IsFolded, IsHandled, HasFolded, HasFoldedAll, HasHandled, FaultsTell, GivesFault}
use Rattle.chorus_crew.proofs.Faults.{tells-same}

added : (value : Ui → ℕ → Message → ℕ) (q : Ui) (ts : List TakenMessage) (total : ℕ) → total % 2 ^ 64 ≡ total → after_all (adding value) q ts total ≡ (total + worth value q ts) % 2 ^ 64
added value q [] total small = sym small ∙ ap (λ k. k % 2 ^ 64) (let e : total ≡ total + 0 = omega arith in e)
added value q (t ∷ ts) total small =
    let v : ℕ = value q t.position t.message in
    let w : ℕ = worth value q ts in
    let e : (((total + v) % 2 ^ 64) + w) % 2 ^ 64 ≡ (total + (v + w)) % 2 ^ 64 = omega arith in
    added value q ts ((total + v) % 2 ^ 64) (omega arith) ∙ e

vain : (q : Ui) (e : EndedBy) → fault_of e ≡ None → (last : Act) × IsMiss q last × (last_acts q e ≡ last ∷ [])
vain q ends.Empty none = (Act.Empty q, inl refl, refl)
vain q ends.NotHere none = (Act.NotHere q, inr refl, refl)
vain q (ends.Fault f) none = absurd (cc)

handled-one : (value : Ui → ℕ → Message → ℕ) (l : Layout) (v : Knowledge PlaceNote) (q : Ui) (made : List (Placed PlaceNote)) (f : Folded ℕ) → fault_of f.ended ≡ None → IsFolded (adding value) l v q made f → IsHandled value l v q made (handled_from f)
handled-one value l v q made f none is =
    let last = vain q f.ended none in
    record {
      port = is.port;
      took = is.took;
      given = is.given;
      last = last.0;
      missed = last.1;
      acts = is.acts ∙ ap (λ zs. took_acts q is.took ++ zs) last.2;
      counts = record { first = is.folds.first; number = is.folds.number; sum = is.folds.state_is ∙ added value q is.took 0 refl ∙ (let e : (0 + worth value q is.took) % 2 ^ 64 ≡ worth value q is.took % 2 ^ 64 = omega arith in e) };
    }

handled-each : (value : Ui → ℕ → Message → ℕ) (l : Layout) (v : Knowledge PlaceNote) (clock seat : ℕ) (pairs : List (Ui × Ui)) (notes : List (Note PlaceNote)) (folded : List (Folded ℕ)) → All (λ (f : Folded ℕ). fault_of f.ended ≡ None) folded
    → AreEach (IsFolded (adding value) l v) l clock seat pairs notes folded → AreEach (IsHandled value l v) l clock seat pairs notes (map handled_from folded)
handled-each value l v clock seat [] [] [] none e = tt
handled-each value l v clock seat [] [] (f ∷ folded) none e = absurd e
handled-each value l v clock seat [] (m ∷ notes) folded none e = absurd e
handled-each value l v clock seat (p ∷ pairs) [] folded none e = absurd e
handled-each value l v clock seat (p ∷ pairs) (m ∷ notes) [] none e = absurd e
handled-each value l v clock seat (p ∷ pairs) (m ∷ notes) (f ∷ folded) none e =
    let whole = λ (f : Folded ℕ). fault_of f.ended ≡ None in
    (e.0, e.1, handled-one value l v p.0 m.mine f (All-head whole f folded none) e.2, handled-each value l v clock (seat + 1) pairs notes folded (All-tail whole f folded none) e.3)

pub has-handled : (value : Ui → ℕ → Message → ℕ) (n : Nucleus) (pairs : List (Ui × Ui)) (folded : List (Folded ℕ)) (handled : List Handled) (a c : Pass) → handled ≡ map handled_from folded → HasFoldedAll (adding value) n pairs folded a c → HasHandled value n pairs handled a c
has-handled value n pairs folded handled a c is h = subst (λ hs. HasHandled value n pairs hs a c) (sym is) record {
  news = h.0.news;
  notes = h.0.notes;
  each = handled-each value (layout_of n) (known c) _ _ pairs h.0.news folded h.1 h.0.each;
  sees = h.0.sees;
}

-- There is one for each pair.

each-count : {H : Type 0} (is : Ui → List (Placed PlaceNote) → H → Type 0) (l : Layout) (clock seat : ℕ) (pairs : List (Ui × Ui)) (notes : List (Note PlaceNote)) (all : List H) → AreEach is l clock seat pairs notes all → length all ≡ length pairs
each-count is l clock seat [] [] [] e = refl
each-count is l clock seat [] [] (h ∷ all) e = absurd e
each-count is l clock seat [] (m ∷ notes) all e = absurd e
each-count is l clock seat (p ∷ pairs) [] all e = absurd e
each-count is l clock seat (p ∷ pairs) (m ∷ notes) [] e = absurd e
each-count is l clock seat (p ∷ pairs) (m ∷ notes) (h ∷ all) e = ap suc (each-count is l clock (seat + 1) pairs notes all e.3)

pub folded-count : {S : Type 0} (way : Way S) (n : Nucleus) (pairs : List (Ui × Ui)) (folded : List (Folded S)) (a c : Pass) → HasFolded way n pairs folded a c → length folded ≡ length pairs
folded-count way n pairs folded a c h = each-count (IsFolded way (layout_of n) (known c)) (layout_of n) _ _ pairs h.news folded h.each

-- What the crew answers at a fault.

pub on-err : {T : Type 0} (r : Result T CrewFault) (P : Type 0) → P → OnErr r P
on-err (Ok v) P p = tt
on-err (Err f) P p = p

same-err : {T : Type 0} (f e : CrewFault) → IsErrOf {T = T} (Err f) e → f ≡ e
same-err f e is = cc

pub told-faults : {S T : Type 0} (u : Unfinished S) (count : ℕ) (a c : Pass) → FaultsTell (GivesFault {S = S} (Err u)) count a c → FaultsTell (IsErrOf {T = T} (Err u.fault)) count a c
told-faults {S} {T} u count a c t =
    tells-same (GivesFault {S = S} (Err u)) (IsErrOf {T = T} (Err u.fault)) count a c
    (λ e. ((λ is. ap (λ (x : CrewFault). Err x) is), λ is. same-err {T = T} u.fault e is)) t
