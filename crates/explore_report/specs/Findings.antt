-- The outcomes that were found, each once.
-- comes tells what a history comes to, hs and ks are histories, h is one of ks, a text is an outcome's lines, told is a
-- number as it is told, fs are findings.
use Rattle.std.specs.Prelude.{ℕ, ltb, ◌≡◌, ◌≢◌, ◌≤◌, ◌+◌, ◌*◌, ◌%◌, ◌^◌, if◌then◌else◌, List, [], ◌∷◌, ◌++◌, length, map, reverse, Contains}
use Rattle.std.specs.List.{All, AllPairs}
use Rattle.law_explore.specs.declared.moves.Move.{Move}
use Rattle.law_explore.specs.Explores.{Found, IsCounted, told_number}
use Rattle.explore_report.specs.declared.findings.Finding.{Finding}

-- a finding as what is said of the race: its lines, and its moves with the latest first
abbrev pub found_of : Finding → Found (List ℕ)
found_of f = record { outcome = f.text.items; histories = f.histories; shows = reverse f.moves.items }

abbrev pub texts_of : List Finding → List (List ℕ)
texts_of fs = map (λ (f : Finding). f.text.items) fs

-- a sum of bytes in which their places count, from what the bytes before them gave
abbrev pub sum_from : ℕ → List ℕ → ℕ
sum_from sum [] = sum
sum_from sum (b ∷ bs) = sum_from ((sum * 31 + b) % 2 ^ 64) bs

-- of these histories and no other: each outcome to which one comes stands once, with how many they are and one of them,
-- than which none is shorter
pub record AreFindings (comes : List Move → List ℕ) (hs : List (List Move))
    (fs : List Finding) : Type 0 where
  pub shown :
      All (λ (f : Finding). Contains hs (reverse f.moves.items) × (comes (reverse f.moves.items) ≡ f.text.items)) fs
  pub once : AllPairs (λ (one other : List ℕ). one ≢ other) (texts_of fs)
  pub found : All (λ (h : List Move). Contains (texts_of fs) (comes h)) hs
  pub counted : All (λ (f : Finding). IsCounted comes f.text.items hs f.histories) fs
  pub first : All (λ (f : Finding). All (λ (h : List Move). comes h ≡ f.text.items →
      length (reverse f.moves.items) ≤ length h) hs) fs

-- the sums are those of the texts
abbrev pub HaveSums : List Finding → Type 0
HaveSums fs = All (λ (f : Finding). f.sum ≡ sum_from 0 f.text.items) fs

-- as many histories as are told, h among them and none of them shorter, all come to the text
pub record ComeTo (comes : List Move → List ℕ) (text : List ℕ) (h : List Move) (told : ℕ)
    (ks : List (List Move)) : Type 0 where
  pub come : All (λ (k : List Move). comes k ≡ text) ks
  pub among : Contains ks h
  pub least : All (λ (k : List Move). length h ≤ length k) ks
  pub number : told ≡ told_number (length ks)

-- none of these is longer than one of those
abbrev pub AreLater : List (List Move) → List (List Move) → Type 0
AreLater hs ks = All (λ (h : List Move). All (λ (k : List Move). length h ≤ length k) ks) hs

-- the outcome shows the one of these two that has fewer moves, or as it did where neither has
abbrev pub shorter : List Move → List Move → List Move
shorter h was = if ltb (length h) (length was) then h else was

-- these histories, which come to the text, are counted too
abbrev pub Counts : List ℕ → List Move → ℕ → List Finding → List Finding → Type 0
Counts text h number old new =
    (comes : List Move → List ℕ) (hs ks : List (List Move)) → ComeTo comes text h number ks →
    AreFindings comes hs old → AreFindings comes (hs ++ ks) new
