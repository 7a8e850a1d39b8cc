-- The sheet of a picture: its size and its style, the block of the setup, the lines of its columns, the bands of their
-- heads and what stands in these, and the bars that go to the end. cs are the columns, c is a column, n is the number
-- of entries, k that of a head, y where a head begins, w the width.
use Rattle.std.specs.Prelude.{ℕ, zero, suc, ◌+◌, ◌-◌, ◌*◌, ◌==◌, ◌&&◌, if◌then◌else◌, List, [], ◌∷◌, ◌++◌, codes, Option, Some, None}
use Rattle.std.specs.List.{flat_map}
use Rattle.chorus_ui.specs.declared.ui.Ui.{Ui}
use Rattle.chorus_ui.specs.declared.layout.Layout.{Layout}
use Rattle.chorus_ui.specs.Layout.{site_of}
use Rattle.chorus_ui.specs.Text.{name_text}
use Rattle.law_picture.specs.declared.bar.Bar.{Bar}
use Rattle.picture_texts.specs.Filling.{filled}
use Rattle.picture_rows.specs.Columns.{ColumnShape, lane_of, right_edge, width}
use Rattle.picture_rows.specs.Rows.{heads, end_y}
use Rattle.picture_rows.specs.Shapes.{bar_in}
use Rattle.chorus_picture.specs.declared.style.TheConstants.{STYLE}

-- the size
unfoldable pub opening_tag : ℕ → ℕ → List ℕ
opening_tag w h =
    filled (codes "<svg xmlns='http://www.w3.org/2000/svg' xml:space='preserve' width='@' height='@' viewBox='0 0 @ @'>\n")
    (w ∷ h ∷ w ∷ h ∷ [])

unfoldable pub paper : ℕ → ℕ → List ℕ
paper w h = filled (codes "<rect class='paper' width='@' height='@'/>\n") (w ∷ h ∷ [])

unfoldable pub line_at : ℕ → ℕ → List ℕ
line_at x y = filled (codes "<path class='line' d='M@ 40V@'/>\n") (x ∷ y ∷ [])

abbrev pub line_of : ℕ → ColumnShape → List ℕ
line_of y c = line_at c.x y

-- behind the rows of the setup one block, whose rows end where so many rows end
unfoldable pub block_at : ℕ → ℕ → List ℕ
block_at w h = filled (codes "<rect class='setup' y='40' width='@' height='@'/>\n") (w ∷ h ∷ [])

abbrev pub block : ℕ → ℕ → List ℕ
block w rows = if rows == 0 then [] else block_at w (end_y rows - 49)

-- the bands of so many heads from this one on, one before each 32 rows
unfoldable pub band : ℕ → ℕ → List ℕ
band w y = filled (codes "<rect class='band' y='@' width='@' height='40'/>\n") (y ∷ w ∷ [])

abbrev pub bands_from : ℕ → ℕ → ℕ → List ℕ
bands_from w zero k = []
bands_from w (suc more) k = band w (616 * k) ++ bands_from w more (k + 1)

-- before the rows, of which so many are the setup
abbrev pub front : List ColumnShape → ℕ → ℕ → List ℕ
front cs n setup =
    opening_tag (width cs) (end_y n + 234) ++ STYLE.now ++ paper (width cs) (end_y n + 234) ++ block (width cs) setup
    ++ flat_map (line_of (end_y n)) cs ++ bands_from (width cs) (heads n) 0

-- The ports that are held after the last entry, along each column.

abbrev pub bar_left : ColumnShape → Ui → ℕ → Option Bar → List ℕ
bar_left c q y None = []
bar_left c q y (Some b) = if b.held && (b.row.place == c.place) then bar_in q b y c else []

abbrev pub bars_left : (Ui → Option Bar) → ℕ → ColumnShape → List ℕ
bars_left bars y c = flat_map (λ q. bar_left c q y (bars q)) c.ports

-- What stands in the heads.

unfoldable pub captions : ℕ → ℕ → List ℕ
captions right y =
    filled (codes "<text x='8' y='@'>clock</text><text x='@' y='@'>caller</text><text x='@' y='@'>entry</text>\n")
    ((y + 32) ∷ (right + 12) ∷ (y + 32) ∷ (right + 72) ∷ (y + 32) ∷ [])

unfoldable pub place_head : ℕ → ℕ → ℕ → ℕ → List ℕ
place_head x y site place =
    filled (codes "<text class='head' x='@' y='@'>site @</text><text class='head' x='@' y='@'>place @</text>\n")
    ((x + 6) ∷ (y + 16) ∷ site ∷ (x + 6) ∷ (y + 32) ∷ place ∷ [])

unfoldable pub lane_front : ℕ → ℕ → List ℕ
lane_front x y = filled (codes "<text class='name' transform='rotate(-90 @ @)' x='@' y='@'>") (x ∷ y ∷ x ∷ y ∷ [])

unfoldable pub lane_head : ℕ → ℕ → Ui → List ℕ
lane_head x y q = lane_front x y ++ name_text q ++ codes "</text>\n"

unfoldable pub column_head : Layout → ℕ → ColumnShape → List ℕ
column_head l y c =
    place_head c.x y (site_of l c.place) c.place ++ flat_map (λ q. lane_head (lane_of q c + 9) (y + 38) q) c.ports

unfoldable pub head_at : Layout → List ColumnShape → ℕ → List ℕ
head_at l cs y = captions (right_edge cs) y ++ flat_map (column_head l y) cs

-- so many heads from this one on
abbrev pub heads_from : Layout → List ColumnShape → ℕ → ℕ → List ℕ
heads_from l cs zero k = []
heads_from l cs (suc more) k = head_at l cs (616 * k) ++ heads_from l cs more (k + 1)

abbrev pub all_heads : Layout → List ColumnShape → ℕ → List ℕ
all_heads l cs n = heads_from l cs (heads n) 0
