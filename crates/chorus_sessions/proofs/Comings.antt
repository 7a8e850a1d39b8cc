-- Sessions come and go.
-- n is a nucleus, a, b and c are a pass at three moments, k counts those who came, ps are sessions.
use Rattle.std.proofs.Common.{ℕ, ◌≡◌, ◌+◌, if◌then◌else◌, true, false, List, [], ◌∷◌, ◌++◌, length, Ok, slice_index_or, sym, ◌∙◌, ap, subst, inl, inr, arith}
use Rattle.std.proofs.lemmas.Bool.{cases_lt}
use Rattle.std.proofs.lemmas.List.{append-nil, length-append, get_or_append_left}
use Rattle.std.proofs.lemmas.List.Elements.{All-nil, All-append}
use Rattle.std.proofs.Math.Seq.{get_or-append_seam}
use Rattle.chorus_ui.specs.declared.ui.Ui.{Ui}
use Rattle.chorus_ui.specs.declared.layout.Layout.{Layout}
use Rattle.chorus_turn.specs.declared.knowledge.Placed.{Placed}
use Rattle.chorus_turn.specs.declared.knowledge.Knowledge.{Knowledge}
use Rattle.chorus_turn.specs.declared.knowledge.Note.{Note}
use Rattle.chorus_turn.specs.Knowing.{note_of}
use Rattle.law_closing.specs.Places.{PlaceNote}
use Rattle.chorus_nucleus.specs.declared.nucleus.Nucleus.{Nucleus}
use Rattle.chorus_nucleus.specs.declared.pass.Pass.{Pass}
use Rattle.chorus_nucleus.specs.Passes.{layout_of, known, caller_of}
use Rattle.chorus_nucleus.specs.Taking.{SeesMore}
use Rattle.chorus_nucleus.specs.Coming.{IsStarted, Enters, Retires}
use Rattle.chorus_sessions.specs.declared.hand.Hand.{Hand}
use Rattle.chorus_sessions.specs.declared.session.Session.{Session}
use Rattle.chorus_sessions.specs.Hands.{hands_out, HandNothingOut, AreKept, IsKept}
use Rattle.chorus_sessions.specs.Sessions.{AreSessions, Draws, Goes, HasAllBack, HaveRun, IsKeeper, IsSession}
use Rattle.chorus_sessions.proofs.Holding.{are-delivered-later, are-delivered-none, holds-none, holds-later}

abbrev MadeQuiet : Placed PlaceNote → Type 0
MadeQuiet m = hands_out m.remarked.entry.act ≡ false

-- They come.

pub keeper-started : (l : Layout) (n : Nucleus) (a : Pass) → IsStarted l n a → IsKeeper 0 0 a
keeper-started l n a h = record {
  keeper = ap (λ (v : Knowledge PlaceNote). v.keeper) h.knows;
  drawn_is = ap (λ (v : Knowledge PlaceNote). v.made) h.knows;
  ended_is = ap (λ (v : Knowledge PlaceNote). length v.notes) h.knows;
  quiet = subst HandNothingOut (sym (ap (λ (v : Knowledge PlaceNote). v.mine) h.knows)) (All-nil MadeQuiet);
}

pub session-new : (n : Nucleus) (actor : Ui) (a b : Pass) (p : Session) → Enters n actor a b p.pass → (known p.pass).seat ≡ p.hand.seat → p.hand.taken.items ≡ [] → p.hand.delivered.items ≡ [] → IsSession n p
session-new n actor a b p new seat none sent = record {
  pass = new.pass;
  notes = ap (λ (v : Knowledge PlaceNote). v.notes) new.knows;
  keeper = ap (λ (v : Knowledge PlaceNote). v.keeper) new.knows;
  seat = seat;
  holds = holds-none (layout_of n) (known p.pass) (known p.pass).mine (caller_of p.pass).last p.hand.taken.items
      (subst HandNothingOut (sym (ap (λ (v : Knowledge PlaceNote). v.mine) new.knows)) (All-nil MadeQuiet)) none;
  delivered = are-delivered-none (layout_of n) (known p.pass) (known p.pass).mine p.hand.delivered.items sent;
}

pub sessions-none : (n : Nucleus) (ps : List Session) → ps ≡ [] → AreSessions n ps
sessions-none n ps none = record { each = λ i d lt. (let count = ap (λ (xs : List Session). length xs) none in absurd (omega (arith, lt, count))) }

pub sessions-more : (n : Nucleus) (ps : List Session) (p : Session) → AreSessions n ps → IsSession n p → AreSessions n (ps ++ p ∷ [])
sessions-more n ps p all new = record {
  each = λ i d lt. elim (cases_lt i (length ps)) [
    | inl low ↦ subst (IsSession n) (sym (get_or_append_left ps (p ∷ []) d i low)) (all.each i d low)
    | inr high ↦
        (let more = length-append ps (p ∷ []) in
        let same : i ≡ length ps = omega (arith, lt, high, more) in
        let here : slice_index_or (ps ++ p ∷ []) i d ≡ p = ap (λ j. slice_index_or (ps ++ p ∷ []) j d) same ∙ get_or-append_seam ps p [] d in
        subst (IsSession n) (sym here) new)
  ];
}

pub keeper-drew : (k : ℕ) (p : Session) (a b : Pass) → Draws (Ok p) a b → IsKeeper k 0 a → IsKeeper (k + 1) 0 b
keeper-drew k p a b drawn h = record {
  keeper = ap (λ (v : Knowledge PlaceNote). v.keeper) drawn ∙ h.keeper;
  drawn_is = (let made = ap (λ (v : Knowledge PlaceNote). v.made) drawn in let was = h.drawn_is in omega (arith, made, was));
  ended_is = ap (λ (v : Knowledge PlaceNote). length v.notes) drawn ∙ h.ended_is;
  quiet = subst HandNothingOut (sym (ap (λ (v : Knowledge PlaceNote). v.mine) drawn)) h.quiet;
}

pub keeper-same : (k e : ℕ) (a b : Pass) → known b ≡ known a → IsKeeper k e a → IsKeeper k e b
keeper-same k e a b same h = record {
  keeper = ap (λ (v : Knowledge PlaceNote). v.keeper) same ∙ h.keeper;
  drawn_is = ap (λ (v : Knowledge PlaceNote). v.made) same ∙ h.drawn_is;
  ended_is = ap (λ (v : Knowledge PlaceNote). length v.notes) same ∙ h.ended_is;
  quiet = subst HandNothingOut (sym (ap (λ (v : Knowledge PlaceNote). v.mine) same)) h.quiet;
}

pub keeper-goes : (n : Nucleus) (k e : ℕ) (a b : Pass) → Goes n a b → IsKeeper k e a → IsKeeper k e b
keeper-goes n k e a b g h = record {
  keeper = g.same.2 ∙ h.keeper;
  drawn_is = g.same.3 ∙ h.drawn_is;
  ended_is = ap (λ (notes : List (Note PlaceNote)). length notes) g.same.1 ∙ h.ended_is;
  quiet = subst HandNothingOut (sym g.mine) (All-append MadeQuiet (known a).mine g.more h.quiet g.quiet);
}

pub came : (n : Nucleus) (p : Session) (a b : Pass) (ps more : List Session) → IsKeeper (length ps) 0 a → Draws (Ok p) a b → AreSessions n ps → IsSession n p → more ≡ ps ++ p ∷ [] → IsKeeper (length more) 0 b × AreSessions n more × (length more ≡ length ps + 1)
came n p a b ps more h drawn all new is =
    let count = length-append ps (p ∷ []) in
    let longer = ap (λ (xs : List Session). length xs) is in
    let one : length ps + 1 ≡ length more = omega (arith, count, longer) in (
      subst (λ k. IsKeeper k 0 b) one (keeper-drew (length ps) p a b drawn h),
      subst (AreSessions n) (sym is) (sessions-more n ps p all new),
      sym one,
    )

-- They run.

pub have-run : (n : Nucleus) (xs ys : List Session) → length ys ≡ length xs → HaveRun n xs ys → AreSessions n ys
have-run n xs ys same h = record { each = λ i d lt. h.each i d (omega (arith, lt, same)) }

-- They go.

pub sessions-but-last : (n : Nucleus) (ps : List Session) (p : Session) → AreSessions n (ps ++ p ∷ []) → AreSessions n ps × IsSession n p
sessions-but-last n ps p all =
    let more = length-append ps (p ∷ []) in (
      record { each = λ i d lt. subst (IsSession n) (get_or_append_left ps (p ∷ []) d i lt) (all.each i d (omega (arith, lt, more))) },
      subst (IsSession n) (get_or-append_seam ps p [] p) (all.each (length ps) p (omega (arith, more))),
    )

pub keeper-retired : (n : Nucleus) (k e : ℕ) (p : Session) (a b : Pass) → Retires n p.pass a b → IsSession n p → IsKeeper k e a → IsKeeper k (e + 1) b
keeper-retired n k e p a b r is h =
    let knows = r.knows in
    let own = is.keeper in
    record {
      keeper = ap (λ (v : Knowledge PlaceNote). v.keeper) knows ∙ ap (λ x. if x then true else (known a).keeper) own ∙ h.keeper;
      drawn_is = ap (λ (v : Knowledge PlaceNote). v.made) knows ∙ ap (λ x. if x then (known p.pass).made else (known a).made) own ∙ h.drawn_is;
      ended_is =
          (let count = ap (λ (v : Knowledge PlaceNote). length v.notes) knows in
          let more = length-append (known a).notes (note_of (known p.pass) ∷ (known p.pass).notes) in
          let none = ap (λ (notes : List (Note PlaceNote)). length notes) is.notes in
          let was = h.ended_is in omega (arith, count, more, none, was));
      quiet = subst HandNothingOut (sym (ap (λ (v : Knowledge PlaceNote). v.mine) knows)) h.quiet;
    }

-- What they have in hand.

kept-push : (l : Layout) (v : Knowledge PlaceNote) (notes : List (Note PlaceNote)) (hands : List Hand) (note : Note PlaceNote) (hand : Hand) → AreKept l v notes hands → IsKept l v note hand → AreKept l v (notes ++ note ∷ []) (hands ++ hand ∷ [])
kept-push l v [] [] note hand all new = (new, tt)
kept-push l v (n ∷ ns) (h ∷ hs) note hand all new = (all.0, kept-push l v ns hs note hand all.1 new)
kept-push l v [] (h ∷ hs) note hand all new = absurd all
kept-push l v (n ∷ ns) [] note hand all new = absurd all

one-later : (l : Layout) (v u : Knowledge PlaceNote) (note : Note PlaceNote) (hand : Hand) → SeesMore v u → IsKept l v note hand → IsKept l u note hand
one-later l v u note hand sees k = record {
  seat_is = k.seat_is;
  last = k.last;
  holds = holds-later l v u note.mine note.mine [] k.last k.last hand.taken.items sees (omega arith) (sym (append-nil note.mine)) (All-nil MadeQuiet) k.holds;
  delivered = are-delivered-later l v u note.mine note.mine [] hand.delivered.items sees (sym (append-nil note.mine)) k.delivered;
}

kept-later : (l : Layout) (v u : Knowledge PlaceNote) (notes : List (Note PlaceNote)) (hands : List Hand) → SeesMore v u → AreKept l v notes hands → AreKept l u notes hands
kept-later l v u [] [] sees all = tt
kept-later l v u (note ∷ notes) (hand ∷ hands) sees all = (one-later l v u note hand sees all.0, kept-later l v u notes hands sees all.1)
kept-later l v u [] (hand ∷ hands) sees all = absurd all
kept-later l v u (note ∷ notes) [] sees all = absurd all

pub kept-more : (n : Nucleus) (p : Session) (a b : Pass) (hands : List Hand) → Retires n p.pass a b → IsSession n p → AreKept (layout_of n) (known a) (known a).notes hands → AreKept (layout_of n) (known b) (known b).notes (hands ++ p.hand ∷ [])
kept-more n p a b hands r is all =
    let l = layout_of n in
    let notes = ap (λ (v : Knowledge PlaceNote). v.notes) r.knows ∙ ap (λ ks. (known a).notes ++ note_of (known p.pass) ∷ ks) is.notes in
    let own : IsKept l (known p.pass) (note_of (known p.pass)) p.hand = record { seat_is = is.seat; last = (caller_of p.pass).last; holds = is.holds; delivered = is.delivered } in
    subst (λ ks. AreKept l (known b) ks (hands ++ p.hand ∷ [])) (sym notes)
    (kept-push l (known b) (known a).notes hands (note_of (known p.pass)) p.hand (kept-later l (known a) (known b) (known a).notes hands (λ k. (r.sees k).0) all)
    (one-later l (known p.pass) (known b) (note_of (known p.pass)) p.hand (λ k. (r.sees k).1) own))

pub went : (n : Nucleus) (k : ℕ) (p : Session) (a b : Pass) (hands more : List Hand) → Retires n p.pass a b → IsSession n p → IsKeeper k (length hands) a → AreKept (layout_of n) (known a) (known a).notes hands → more ≡ hands ++ p.hand ∷ []
    → IsKeeper k (length more) b × AreKept (layout_of n) (known b) (known b).notes more × (length more ≡ length hands + 1)
went n k p a b hands more r is h all grown =
    let count = length-append hands (p.hand ∷ []) in
    let longer = ap (λ (xs : List Hand). length xs) grown in
    let one : length hands + 1 ≡ length more = omega (arith, count, longer) in (
      subst (λ e. IsKeeper k e b) one (keeper-retired n k (length hands) p a b r is h),
      subst (AreKept (layout_of n) (known b) (known b).notes) (sym grown) (kept-more n p a b hands r is all),
      sym one,
    )

pub all-back : (k : ℕ) (a : Pass) → IsKeeper k k a → HasAllBack a
all-back k a h = let made = h.drawn_is in let ended = h.ended_is in record { keeper = h.keeper; ended = omega (arith, made, ended); quiet = h.quiet }

-- so it is when more packets were moved
pub back-goes : (n : Nucleus) (a b : Pass) → Goes n a b → HasAllBack a → HasAllBack b
back-goes n a b g h = record {
  keeper = g.same.2 ∙ h.keeper;
  ended = g.same.3 ∙ h.ended ∙ ap (λ (notes : List (Note PlaceNote)). length notes + 1) (sym g.same.1);
  quiet = subst HandNothingOut (sym g.mine) (All-append MadeQuiet (known a).mine g.more h.quiet g.quiet);
}

pub kept-goes : (n : Nucleus) (a b : Pass) (hands : List Hand) → Goes n a b → AreKept (layout_of n) (known a) (known a).notes hands → AreKept (layout_of n) (known b) (known b).notes hands
kept-goes n a b hands g all =
    subst (λ (ks : List (Note PlaceNote)). AreKept (layout_of n) (known b) ks hands) (sym g.same.1) (kept-later (layout_of n) (known a) (known b) (known a).notes hands g.sees all)

pub ruleset comings = (session-new, sessions-none, keeper-started, keeper-drew, keeper-same, keeper-goes, all-back)
