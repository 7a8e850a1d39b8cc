-- What a caller knows, and how each call changes it.
use Rattle.std.specs.Prelude.{◌≡◌, ℕ, ◌+◌, true, false, if◌then◌else◌, List, [], ◌∷◌, ◌++◌, map}
use Rattle.std.specs.List.{All}
use Rattle.chorus_ui.specs.declared.limits.TheConstants.{SEATS_LIMIT}
use Rattle.chorus_turn.specs.declared.knowledge.Remarked.{Remarked}
use Rattle.chorus_turn.specs.declared.knowledge.Note.{Note}
use Rattle.chorus_turn.specs.declared.knowledge.Knowledge.{Knowledge}
use Rattle.chorus_turn.specs.Lists.{StartsWith, list_at, list_put, all_longer}
use Rattle.chorus_turn.specs.Journals.{by_seat, with_place, at_place}

-- the most numbers that may be drawn
abbrev pub limit : ℕ
limit = SEATS_LIMIT

module _ {R : Type 0} where
  -- the journal of a place, as far as it was seen
  abbrev pub seen_at : ℕ → Knowledge R → List (Remarked R)
  seen_at place v = list_at place v.seen

  abbrev pub seats_of : List (Note R) → List ℕ
  seats_of notes = map (λ (n : Note R). n.seat) notes

  -- of the opening pass
  abbrev pub opening_knowledge : Knowledge R
  opening_knowledge = record { seat = 0; seen = []; mine = []; refused = []; notes = []; keeper = true; made = 1 }

  -- of the keeper v, which has drawn the next number
  abbrev pub after_draw : Knowledge R → Knowledge R
  after_draw v = record v { made = v.made + 1 }

  -- of the pass that gets the number which the keeper v draws next
  abbrev pub newcomer : Knowledge R → Knowledge R
  newcomer v = record { seat = v.made; seen = v.seen; mine = []; refused = []; notes = []; keeper = false; made = 0 }

  -- of v, which has found the place held
  abbrev pub after_refusal : ℕ → ℕ → Knowledge R → Knowledge R
  after_refusal place by v = record v { refused = v.refused ++ (place, by) ∷ [] }

  -- of v, which has found this journal at the place, and has added the new entries
  abbrev pub after_turn : ℕ → List (Remarked R) → List (Remarked R) → Knowledge R → Knowledge R
  after_turn place found news v =
      record v { seen = list_put place (found ++ news) v.seen; mine = v.mine ++ with_place place v.seen news }

  abbrev pub note_of : Knowledge R → Note R
  note_of w = record { seat = w.seat; mine = w.mine }

  -- of v, into which w is retired
  abbrev pub after_retirement : Knowledge R → Knowledge R → Knowledge R
  after_retirement v w = record v {
    seen = all_longer v.seen w.seen;
    notes = v.notes ++ (note_of w ∷ w.notes);
    keeper = if w.keeper then true else v.keeper;
    made = if w.keeper then w.made else v.made;
  }

  -- after w was retired into v, u is the pass that v was, and the keeper, with the count of numbers, where either was
  abbrev pub Inherits : Knowledge R → Knowledge R → Knowledge R → Type 0
  Inherits v w u = (u.seat ≡ v.seat) × (u.keeper ≡ (if w.keeper then true else v.keeper))
      × (u.made ≡ (if w.keeper then w.made else v.made))

  -- what no turn changes of a pass
  abbrev pub IsSamePass : Knowledge R → Knowledge R → Type 0
  IsSamePass v w = (w.seat ≡ v.seat) × (w.notes ≡ v.notes) × (w.keeper ≡ v.keeper) × (w.made ≡ v.made)

  -- the pass is still the keeper, and has its number and its notes
  abbrev pub IsSameKeeper : Knowledge R → Knowledge R → Type 0
  IsSameKeeper v w = (w.seat ≡ v.seat) × (w.notes ≡ v.notes) × (w.keeper ≡ true)

  -- the journal of the place begins with what v had seen there, and has of v and of each pass in its notes just what
  -- they made there
  pub record Shows (place : ℕ) (v : Knowledge R) (found : List (Remarked R)) : Type 0 where
    pub begins : StartsWith found (seen_at place v)
    pub own : by_seat v.seat found ≡ at_place place v.mine
    pub noted : All (λ (n : Note R). by_seat n.seat found ≡ at_place place n.mine) v.notes
