-- The clock and the caller of a row, piece by piece.
use Rattle.std.proofs.Common.{◌≡◌, ℕ, ◌+◌, ◌++◌, List, codes, decimal, sym, ap, ◌∙◌, append_assoc}
use Rattle.picture_texts.proofs.Pieces.{two}
use Rattle.picture_rows.specs.Edge.{act_front, seat_front}
use Rattle.picture_rows.specs.Pieces.{texts_piece}

round_on : (a d b y r : List ℕ) → (((a ++ d) ++ b) ++ y) ++ r ≡ (a ++ d) ++ ((b ++ y) ++ r)
round_on a d b y r =
    append_assoc ((a ++ d) ++ b) y r ∙ append_assoc (a ++ d) b (y ++ r) ∙ ap (λ t. (a ++ d) ++ t) (sym (append_assoc b y r))

-- o is what stood there, a to w what stands there after each piece
pub texts_in_pieces : (right y : ℕ) (clock seat o a b c d e w height seats acts : List ℕ) → height ≡ decimal y → seats ≡ seat_front right → acts ≡ act_front right
    → a ≡ o ++ height → b ≡ a ++ (codes "'>" ++ clock) → c ≡ b ++ (seats ++ height)
    → d ≡ c ++ (codes "'>" ++ seat) → e ≡ d ++ (acts ++ height) → w ≡ e ++ codes "'>" → w ≡ o ++ texts_piece right y clock seat
texts_in_pieces right y clock seat o a b c d e w height seats acts tall left far one two-more three-more four-more five-more last =
    let r5 : List ℕ = codes "'>" in
    let r4 : List ℕ = (codes "</text><text class='act' x='" ++ decimal (right + 72)) ++ ((codes "' y='" ++ decimal y) ++ r5) in
    let r3 : List ℕ = (codes "'>" ++ seat) ++ r4 in
    let r2 : List ℕ = (codes "</text><text x='" ++ decimal (right + 12)) ++ ((codes "' y='" ++ decimal y) ++ r3) in
    let r1 : List ℕ = (codes "'>" ++ clock) ++ r2 in
    let h4 : w ≡ d ++ r4 =
    two d (act_front right ++ decimal y) r5 e w (five-more ∙ (λ i. d ++ (far i ++ tall i))) last
    ∙ ap (λ t. d ++ t) (round_on (codes "</text><text class='act' x='") (decimal (right + 72)) (codes "' y='") (decimal y) r5) in
    let h3 : w ≡ c ++ r3 = two c (codes "'>" ++ seat) r4 d w four-more h4 in
    let h2 : w ≡ b ++ r2 =
    two b (seat_front right ++ decimal y) r3 c w (three-more ∙ (λ i. b ++ (left i ++ tall i))) h3
    ∙ ap (λ t. b ++ t) (round_on (codes "</text><text x='") (decimal (right + 12)) (codes "' y='") (decimal y) r3) in
    let h1 : w ≡ a ++ r1 = two a (codes "'>" ++ clock) r2 b w two-more h2 in
    let h0 : w ≡ o ++ (decimal y ++ r1) = two o (decimal y) r1 a w (one ∙ ap (λ t. o ++ t) tall) h1 in
    h0
