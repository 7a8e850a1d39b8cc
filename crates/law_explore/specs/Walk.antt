-- That search as a loop does it: what was found, and what is pending.
-- h is a history, f a frame, w a walk.
use Rattle.std.specs.Prelude.{ℕ, zero, suc, ◌≡◌, if◌then◌else◌, List, [], ◌∷◌, ◌++◌}
use Rattle.std.specs.List.{flat_map}
use Rattle.law_explore.specs.Search.{System, state_after, fits, ends_from}

-- a history that is gone on from, how many levels more may be gone, and the events not yet taken there
pub record Frame (E : Type 0) : Type 0 where
  pub depth : ℕ
  pub history : List E
  pub rest : List E

-- the frames have the deepest first
pub record Walk (E : Type 0) : Type 0 where
  pub found : List (List E)
  pub frames : List (Frame E)

module _ {S E : Type 0} (y : System S E) (next : S → List E) where
  -- a history is come to: one more is found where nothing is next, else there is a frame more, unless it is too deep
  abbrev pub come_by : ℕ → List E → List E → Walk E → Walk E
  come_by depth h [] w = record { found = w.found ++ h ∷ []; frames = w.frames }
  come_by depth h (e ∷ es) w =
      record { found = w.found; frames = record { depth = depth; history = h; rest = e ∷ es } ∷ w.frames }

  abbrev pub come_to : ℕ → List E → Walk E → Walk E
  come_to zero h w = w
  come_to (suc depth) h w = come_by depth h (next (state_after y h)) w

  -- an event of the deepest frame is taken, or left out where it does not fit; a frame with no event left is gone from
  abbrev pub taken_from : Frame E → List E → List (Frame E) → List (List E) → Walk E
  taken_from f [] fs found = record { found = found; frames = fs }
  taken_from f (e ∷ es) fs found =
      let w : Walk E = record {
        found = found;
        frames = record {
          depth = f.depth;
          history = f.history;
          rest = es;
        } ∷ fs;
      } in
      if fits y e f.history then come_to f.depth (e ∷ f.history) w else w

  abbrev pub step_with : List (List E) → List (Frame E) → Walk E
  step_with found [] = record { found = found; frames = [] }
  step_with found (f ∷ fs) = taken_from f f.rest fs found

  abbrev pub walk_step : Walk E → Walk E
  walk_step w = step_with w.found w.frames

  abbrev pub walk_start : ℕ → Walk E
  walk_start depth = come_to depth [] (record { found = []; frames = [] })

  -- what is pending: below each frame, and each of its events, what the search finds
  abbrev pub below : Frame E → E → List (List E)
  below f e = if fits y e f.history then ends_from y next f.depth (e ∷ f.history) else []

  abbrev pub pending : List (Frame E) → List (List E)
  pending [] = []
  pending (f ∷ fs) = flat_map (below f) f.rest ++ pending fs

  abbrev pub found_and_pending : Walk E → List (List E)
  found_and_pending w = w.found ++ pending w.frames

  -- what was found and what is pending is, from the start on, what the search finds
  abbrev pub WalkKeeps : Type 0
  WalkKeeps =
      ((depth : ℕ) → found_and_pending (walk_start depth) ≡ ends_from y next depth []) ×
      ((w : Walk E) → found_and_pending (walk_step w) ≡ found_and_pending w)
