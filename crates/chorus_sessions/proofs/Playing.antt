-- Ports are made, sessions come, one for each behaviour, and go.
-- B is the type of the behaviours, n a nucleus, a, b and c are a pass at three moments, ss are sessions.
use Rattle.std.proofs.Common.{ℕ, Bool, true, false, zero, suc, ◌≡◌, ◌+◌, ◌<◌, ◌≤◌, List, [], ◌∷◌, ◌++◌, take, get_or, length, map, reverse, refl, sym, ◌∙◌, ap, subst, arith, append_assoc}
use Rattle.std.proofs.lemmas.List.{append-nil, map-append, reverse-append}
use Rattle.chorus_ui.specs.declared.ui.Ui.{Ui}
use Rattle.chorus_calls.specs.Callers.{Seated}
use Rattle.chorus_turn.specs.declared.knowledge.Knowledge.{Knowledge}
use Rattle.chorus_turn.specs.Knowing.{note_of}
use Rattle.law_closing.specs.Places.{PlaceNote}
use Rattle.chorus_nucleus.specs.declared.nucleus.Nucleus.{Nucleus}
use Rattle.chorus_nucleus.specs.declared.pass.Pass.{Pass}
use Rattle.chorus_nucleus.specs.Passes.{known}
use Rattle.chorus_nucleus.specs.Calls.{gave}
use Rattle.chorus_nucleus.specs.Coming.{Enters, Retires}
use Rattle.chorus_sessions.specs.declared.hand.Hand.{Hand}
use Rattle.chorus_sessions.specs.declared.running.Ending.{Ending}
use Rattle.chorus_sessions.specs.declared.session.Session.{Session}
use Rattle.chorus_sessions.specs.declared.setup.NewPort.{NewPort}
use Rattle.chorus_sessions.specs.Delivering.{IsServed, Pumps, Through}
use Rattle.chorus_sessions.specs.Sessions.{hand_of, IsSession}
use Rattle.chorus_sessions.specs.Playing.{ended_by, left_by, making, AreMade, HaveCome, HasPlayed, IsMade, IsNewSession, HaveEnded}

module _ {B : Type 0} where
  take-next : (xs : List B) (k : ℕ) (d : B) → k < length xs → take (k + 1) xs ≡ take k xs ++ get_or xs k d ∷ []
  take-next [] k d h = absurd (omega (arith, h))
  take-next (x ∷ xs) zero d h = refl
  take-next (x ∷ xs) (suc k) d h = let e : suc k + 1 ≡ suc (k + 1) = omega arith in rw e (ap (λ zs. x ∷ zs) (take-next xs k d (omega (arith, h))))

  take-length : (xs : List B) (k : ℕ) → k ≤ length xs → length (take k xs) ≡ k
  take-length xs zero h = refl
  take-length [] (suc k) h = absurd (omega (arith, h))
  take-length (x ∷ xs) (suc k) h = ap suc (take-length xs k (omega (arith, h)))

  take-all : (xs : List B) (k : ℕ) → length xs ≤ k → take k xs ≡ xs
  take-all [] zero h = refl
  take-all [] (suc k) h = refl
  take-all (x ∷ xs) zero h = absurd (omega (arith, h))
  take-all (x ∷ xs) (suc k) h = ap (λ zs. x ∷ zs) (take-all xs k (omega (arith, h)))

-- What it gave.

made-more : (n : Nucleus) (ports : List NewPort) (port : NewPort) (a b c : Pass) → AreMade n ports a b → IsMade n port b c → AreMade n (ports ++ port ∷ []) a c
made-more n [] port a b c h made = (c, subst (λ z. IsMade n port z c) h made, refl)
made-more n (first ∷ ports) port a b c h made = (h.0, h.1, made-more n ports port h.0 b c h.2 made)

-- one port more
pub made-next : (n : Nucleus) (ports : List NewPort) (index : ℕ) (d port : NewPort) (a b c : Pass) → index < length ports → port ≡ get_or ports index d → AreMade n (take index ports) a b → IsMade n port b c → AreMade n (take (index + 1) ports) a c
made-next n ports index d port a b c small is made one =
    subst (λ zs. AreMade n zs a c) (sym (take-next ports index d small ∙ ap (λ x. take index ports ++ x ∷ []) (sym is))) (made-more n (take index ports) port a b c made one)

made-gave : (n : Nucleus) (ports : List NewPort) (a b : Pass) → AreMade n ports a b → gave (known b) ≡ gave (known a) ++ map making ports
made-gave n [] a b h = ap (λ z. gave (known z)) h ∙ sym (append-nil (gave (known a)))
made-gave n (port ∷ ports) a b h =
    made-gave n ports h.0 b h.2 ∙ ap (λ cs. cs ++ map making ports) h.1.1.gave_is ∙ append_assoc (gave (known a)) (making port ∷ []) (map making ports)

through-gave : (n : Nucleus) (cs : List Pass) (a b : Pass) → Through (IsServed n) cs a b → gave (known b) ≡ gave (known a)
through-gave n [] a b h = ap (λ z. gave (known z)) h
through-gave n (c ∷ cs) a b h = through-gave n cs c b h.1 ∙ h.0.2.gave_is

pumps-gave : (n : Nucleus) (a b : Pass) → Pumps n a b → gave (known b) ≡ gave (known a)
pumps-gave n a b h = through-gave n h.0 a b h.1

pub retires-gave : (n : Nucleus) (p a b : Pass) → Retires n p a b → gave (known b) ≡ gave (known a)
retires-gave n p a b r = ap (λ (v : Knowledge PlaceNote). gave v) r.knows

-- They come.

pub new-session : (n : Nucleus) (actor : Ui) (a b : Pass) (p : Session) → Enters n actor a b p.pass → IsSession n p → p.hand.taken.items ≡ [] → p.hand.delivered.items ≡ [] → IsNewSession n actor (known a).made p
new-session n actor a b p new is none unsent = record {
  session = is;
  seat_is = sym is.seat ∙ ap (λ (v : Knowledge PlaceNote). v.seat) new.knows;
  actor_is = ap (λ (w : Seated). w.actor) new.caller;
  nothing = ap (λ (v : Knowledge PlaceNote). v.mine) new.knows;
  none = none;
  unsent = unsent;
}

module _ {B : Type 0} (in_actor : B → Ui) (n : Nucleus) where
  come-more : (seat : ℕ) (bs : List B) (b : B) (ss : List Session) (s : Session) (at : ℕ) → HaveCome in_actor n seat bs ss → at ≡ seat + length bs → IsNewSession n (in_actor b) at s → HaveCome in_actor n seat (bs ++ b ∷ []) (ss ++ s ∷ [])
  come-more seat [] b [] s at h e new = (subst (λ k. IsNewSession n (in_actor b) k s) (let z : at ≡ seat = omega (arith, e) in z) new, tt)
  come-more seat [] b (x ∷ ss) s at h e new = absurd h
  come-more seat (y ∷ bs) b [] s at h e new = absurd h
  come-more seat (y ∷ bs) b (x ∷ ss) s at h e new = (h.0, come-more (seat + 1) bs b ss s at h.1 (omega (arith, e)) new)

  pub come-none : (ss : List Session) → ss ≡ [] → HaveCome in_actor n 1 [] ss
  come-none ss none = subst (HaveCome in_actor n 1 []) (sym none) tt

  -- one more came
  pub come-next : (bs : List B) (index made : ℕ) (d b : B) (ss more : List Session) (s : Session) → index < length bs → b ≡ get_or bs index d → HaveCome in_actor n 1 (take index bs) ss → made ≡ 1 + index → IsNewSession n (in_actor b) made s
      → more ≡ ss ++ s ∷ [] → HaveCome in_actor n 1 (take (index + 1) bs) more
  come-next bs index made d b ss more s small is h count new grown =
      let len = take-length bs index (omega (arith, small)) in
      subst (HaveCome in_actor n 1 (take (index + 1) bs)) (sym grown)
      (subst (λ zs. HaveCome in_actor n 1 zs (ss ++ s ∷ [])) (sym (take-next bs index d small ∙ ap (λ x. take index bs ++ x ∷ []) (sym is)))
      (come-more 1 (take index bs) b ss s made h (omega (arith, count, len)) new))

  pub come-all : (bs : List B) (k : ℕ) (ss : List Session) → length bs ≤ k → HaveCome in_actor n 1 (take k bs) ss → HaveCome in_actor n 1 bs ss
  come-all bs k ss le h = subst (λ zs. HaveCome in_actor n 1 zs ss) (take-all bs k le) h

  come-count : (seat : ℕ) (bs : List B) (ss : List Session) → HaveCome in_actor n seat bs ss → length ss ≡ length bs
  come-count seat [] [] h = refl
  come-count seat [] (s ∷ ss) h = absurd h
  come-count seat (b ∷ bs) [] h = absurd h
  come-count seat (b ∷ bs) (s ∷ ss) h = ap suc (come-count (seat + 1) bs ss h.1)

  -- The whole: the ports were made, they came, ran and finished, and went; then packets were moved.
  pub ended-behind : (ran finished : B → Nucleus → Session → Session → Type 0) (bs : List B) (ss ts : List Session) (ending more : Ending) (settled : Bool) → more ≡ ended_by ending settled → HaveEnded ending ran finished n bs ss ts → HaveEnded more ran finished n bs ss ts
  ended-behind ran finished bs ss ts ending more settled is h = subst (λ e. HaveEnded e ran finished n bs ss ts) (sym is) (go ending settled h)
    where
      go : (e : Ending) (b : Bool) → HaveEnded e ran finished n bs ss ts → HaveEnded (ended_by e b) ran finished n bs ss ts
      go Ending.Whole true h = h
      go Ending.Whole false h = h
      go Ending.Unmoved b h = h
      go Ending.Unfinished b h = h

  pub has-played : (ran finished : B → Nucleus → Session → Session → Type 0) (ports : List NewPort) (bs : List B) (hands : List Hand) (ending : Ending) (a made entered ran-by gone b : Pass) (came ended : List Session) → gave (known a) ≡ [] → AreMade n ports a made
      → gave (known entered) ≡ gave (known made) → HaveCome in_actor n 1 bs came → Pumps n entered ran-by → HaveEnded ending ran finished n bs came ended → length ended ≡ length came → gave (known gone) ≡ gave (known ran-by)
      → hands ≡ map hand_of (reverse ended) → (known gone).notes ≡ map left_by (reverse ended) → Pumps n gone b → (known b).notes ≡ (known gone).notes → HasPlayed in_actor ran finished n ports bs hands ending a b
  has-played ran finished ports bs hands ending a made entered ran-by gone b came ended new ports-made kept come pumped did count still hands-are notes settled same = record {
    made = made;
    ports_made = ports-made;
    gave_is = pumps-gave n gone b settled ∙ still ∙ pumps-gave n entered ran-by pumped ∙ kept ∙ made-gave n ports a made ports-made ∙ ap (λ cs. cs ++ map making ports) new;
    came = came;
    ended = ended;
    new = come;
    did = did;
    count = count ∙ come-count 1 bs came come;
    notes = same ∙ notes;
    hands_are = hands-are;
  }

pub whole-settled : (ending more : Ending) (settled : Bool) → more ≡ ended_by ending settled → more ≡ Ending.Whole → settled ≡ true
whole-settled ending more settled is whole = go ending settled (sym is ∙ whole)
  where
    go : (e : Ending) (b : Bool) → ended_by e b ≡ Ending.Whole → b ≡ true
    go Ending.Whole true h = refl
    go Ending.Whole false h = absurd (cc)
    go Ending.Unmoved b h = absurd (cc)
    go Ending.Unfinished b h = absurd (cc)

-- They go.

-- so far: `gone` went, the last first
pub record HaveGone (all left : List Session) (hands : List Hand) (pass : Pass) : Type 0 where
  pub gone : List Session
  pub whole : all ≡ left ++ gone
  pub hands_are : hands ≡ map hand_of (reverse gone)
  pub notes : (known pass).notes ≡ map left_by (reverse gone)

pub gone-more : (n : Nucleus) (all before left : List Session) (s : Session) (hands more : List Hand) (a b : Pass) → HaveGone all before hands a → before ≡ left ++ s ∷ [] → Retires n s.pass a b → IsSession n s → more ≡ hands ++ s.hand ∷ [] → HaveGone all left more b
gone-more n all before left s hands more a b h pop r is grown = record {
  gone = s ∷ h.gone;
  whole = h.whole ∙ ap (λ zs. zs ++ h.gone) pop ∙ append_assoc left (s ∷ []) h.gone;
  hands_are = grown ∙ ap (λ zs. zs ++ s.hand ∷ []) h.hands_are ∙ sym (map-append hand_of (reverse h.gone) (s ∷ [])) ∙ ap (map hand_of) (sym (reverse-append (s ∷ []) h.gone));
  notes =
      ap (λ (v : Knowledge PlaceNote). v.notes) r.knows ∙ ap (λ ks. (known a).notes ++ note_of (known s.pass) ∷ ks) is.notes
      ∙ ap (λ zs. zs ++ left_by s ∷ []) h.notes ∙ sym (map-append left_by (reverse h.gone) (s ∷ [])) ∙ ap (map left_by) (sym (reverse-append (s ∷ []) h.gone));
}
