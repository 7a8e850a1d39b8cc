-- What is appended piece by piece is what the shapes are.
use Rattle.std.proofs.Common.{◌≡◌, ℕ, ◌+◌, ◌==◌, ◌++◌, Bool, true, false, cond, List, codes, decimal, refl, sym, ap, ◌∙◌, append_assoc}
use Rattle.chorus_entry.specs.declared.entry.Entry.{Entry}
use Rattle.chorus_show.specs.Lines.{act_text}
use Rattle.law_picture.specs.declared.row.PacketKind.{PacketKind}
use Rattle.law_picture.specs.declared.row.PacketKind.TheVariants as P
use Rattle.picture_texts.specs.Filling.{markup, shown_act}
use Rattle.picture_texts.proofs.Pieces.{five_then, six_then, three_then}
use Rattle.picture_rows.specs.declared.mark.Mark.{Mark}
use Rattle.picture_rows.specs.declared.mark.Mark.TheVariants as M
use Rattle.picture_rows.specs.Pieces.{bar_open, ends_piece, mark_open, mark_use, packet_open, packet_title, spot_piece, texts_piece, way_piece}
use Rattle.picture_rows.specs.Shapes.{arrow_along, bar_class, ends, entry_in, line_text, mark_at, points, spot, texts_at, texts_front}

-- an entry

abbrev pub entry_texts : ℕ → ℕ → Entry → List ℕ → List ℕ
entry_texts right y e note =
    texts_piece right y (decimal e.clock) (decimal e.seat) ++ shown_act (act_text e.act) ++ note ++ codes "</text></g>\n"

-- the place of its mark, and its texts
placed : (right x y z : ℕ) (e : Entry) (note : List ℕ)
    → spot_piece x y ++ entry_texts right z e note
    ≡ (decimal x ++ ((codes "' y='" ++ decimal y) ++ codes "'/>")) ++ (codes "<text x='8' y='" ++ entry_texts right z e note)
placed right x y z e note =
    three_then (decimal x) (codes "' y='" ++ decimal y) (codes "'/><text x='8' y='") (entry_texts right z e note)
    ∙ sym (three_then (decimal x) (codes "' y='" ++ decimal y) (codes "'/>") (codes "<text x='8' y='" ++ entry_texts right z e note))

-- a title, a mark and texts
titled : (title a b c : List ℕ) → title ++ (a ++ (b ++ c)) ≡ ((title ++ a) ++ b) ++ c
titled title a b c = sym (append_assoc (title ++ a) b c ∙ append_assoc title a (b ++ c))

module _ (right x y : ℕ) (e : Entry) (note : List ℕ) where
  abbrev entry_pieces : Mark → List ℕ
  entry_pieces m = mark_open m ++ (markup (line_text e) ++ (mark_use m ++ (spot_piece x y ++ entry_texts right (y + 4) e note)))

  by_title : (m : Mark) (name : List ℕ)
      → mark_open m ++ (markup (line_text e) ++ (codes "</title>" ++ (mark_at name x y ++ texts_at right (y + 4) e note)))
      ≡ mark_open m ++ (((markup (line_text e) ++ codes "</title>") ++ mark_at name x y) ++ texts_at right (y + 4) e note)
  by_title m name = ap (λ t. mark_open m ++ t) (titled (markup (line_text e)) (codes "</title>") (mark_at name x y) (texts_at right (y + 4) e note))

  pub entry_is : (m : Mark) → entry_pieces m ≡ entry_in m right x y e note
  unfolding entry_in mark_at spot texts_at texts_front
  entry_is M.Own = ap (λ t. mark_open M.Own ++ (markup (line_text e) ++ (mark_use M.Own ++ t))) (placed right x y (y + 4) e note) ∙ by_title M.Own (codes "own")
  entry_is M.Denied = ap (λ t. mark_open M.Denied ++ (markup (line_text e) ++ (mark_use M.Denied ++ t))) (placed right x y (y + 4) e note) ∙ by_title M.Denied (codes "denied")
  entry_is M.Work = ap (λ t. mark_open M.Work ++ (markup (line_text e) ++ (mark_use M.Work ++ t))) (placed right x y (y + 4) e note) ∙ by_title M.Work (codes "work")
  entry_is M.Follow = ap (λ t. mark_open M.Follow ++ (markup (line_text e) ++ (mark_use M.Follow ++ t))) (placed right x y (y + 4) e note) ∙ by_title M.Follow (codes "follow")
  entry_is M.Stale = ap (λ t. mark_open M.Stale ++ (markup (line_text e) ++ (mark_use M.Stale ++ t))) (placed right x y (y + 4) e note) ∙ by_title M.Stale (codes "stale")
  entry_is M.Lost = ap (λ t. mark_open M.Lost ++ (markup (line_text e) ++ (mark_use M.Lost ++ t))) (placed right x y (y + 4) e note) ∙ by_title M.Lost (codes "lost")

-- an arrow

module _ (start top turn stop y from to : ℕ) where
  abbrev arrow_pieces : PacketKind → List ℕ
  arrow_pieces kind = packet_open kind ++ (way_piece start top turn stop y ++ (packet_title kind ++ ends_piece from to))

  abbrev whole_way : List ℕ
  whole_way =
      decimal start ++ ((codes " " ++ decimal top) ++ ((codes "H" ++ decimal turn) ++ ((codes "L" ++ decimal stop)
      ++ ((codes " " ++ decimal y) ++ codes "'><title>"))))

  -- its way, and what stands behind it
  way_then : (name : List ℕ) → way_piece start top turn stop y ++ (codes "'><title>" ++ (name ++ ends from to)) ≡ (whole_way ++ name) ++ ends from to
  way_then name =
      five_then (decimal start) (codes " " ++ decimal top) (codes "H" ++ decimal turn) (codes "L" ++ decimal stop) (codes " " ++ decimal y) (codes "'><title>" ++ (name ++ ends from to))
      ∙ sym (six_then (decimal start) (codes " " ++ decimal top) (codes "H" ++ decimal turn) (codes "L" ++ decimal stop) (codes " " ++ decimal y) (codes "'><title>") (name ++ ends from to))
      ∙ sym (append_assoc whole_way name (ends from to))

  pub arrow_is : (kind : PacketKind) → arrow_pieces kind ≡ arrow_along kind start top turn stop y from to
  unfolding arrow_along points ends
  arrow_is P.Try = ap (λ t. packet_open P.Try ++ t) (way_then (codes "try"))
  arrow_is P.Verdict = ap (λ t. packet_open P.Verdict ++ t) (way_then (codes "verdict"))
  arrow_is P.Transfer = ap (λ t. packet_open P.Transfer ++ t) (way_then (codes "transfer"))
  arrow_is P.Ask = ap (λ t. packet_open P.Ask ++ t) (way_then (codes "ask"))
  arrow_is P.Report = ap (λ t. packet_open P.Report ++ t) (way_then (codes "report"))

-- a bar
pub bar_open_is : (waits : ℕ) (name down : List ℕ) → bar_open waits ++ (name ++ down) ≡ codes "<g class='" ++ bar_class waits ++ codes "'><title>" ++ name ++ down
unfolding bar_class
bar_open_is waits name down = by (waits == 0)
  where
    by : (b : Bool)
        → cond b (codes "<g class='idle'><title>") (codes "<g class='waits'><title>") ++ (name ++ down)
        ≡ codes "<g class='" ++ cond b (codes "idle") (codes "waits") ++ codes "'><title>" ++ name ++ down
    by true = refl
    by false = refl
