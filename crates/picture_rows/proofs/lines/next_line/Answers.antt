use Rattle.std.proofs.Common.{ℕ, ◌^◌, ◌<◌, List, [], ◌∷◌, ◌++◌, decimal, ap, ◌∙◌, append_assoc, append-nil, arith}
use Rattle.std.specs.List.{list_any}
use Rattle.chorus_show.specs.Lines.{act_text}
use Rattle.chorus_show.proofs.LineBack.{entry_line}
use Rattle.picture_texts.specs.Stretches.{is_special}
use Rattle.picture_texts.proofs.PlainTexts.{plain_end}
use Rattle.picture_rows.specs.Shapes.{line_text}
use Rattle.picture_rows.proofs.FirstLine.{decimal_apart}
use Rattle.picture_rows.proofs.lines.next_line.Goals as goal

pub returns : goal.returns
returns c =
    λ e more within is.
    let n = within.numbers in
    let place_small : e.place < 2 ^ 64 = omega (arith, n.place) in
    let seat_small : e.seat < 2 ^ 64 = omega (arith, n.seat) in
    let last : List ℕ = act_text e.act ++ [] in
    let two : List ℕ = decimal e.seat ++ 32 ∷ last in
    let three : List ℕ = decimal e.place ++ 32 ∷ two in
    let line = c.cut_line-special.ensures (line_text e) more (entry_line e n) (is ∙ append_assoc (line_text e) (10 ∷ []) more) in
    let clock = c.cut.ensures (decimal e.clock) three (decimal_apart e.clock n.clock) line.0 in
    let place = c.cut-2.ensures (decimal e.place) two (decimal_apart e.place place_small) clock.1 in
    let seat = c.cut-3.ensures (decimal e.seat) last (decimal_apart e.seat seat_small) place.1 in (
      record {
        text = line.0;
        clock = clock.0;
        seat = seat.0;
        act = seat.1 ∙ append-nil (act_text e.act);
        plain = λ h. ap (list_any is_special) line.0 ∙ line.2 h;
        plain_act =
            λ h. ap (list_any is_special) seat.1
            ∙ plain_end (decimal e.seat) (32 ∷ last) (plain_end (decimal e.place) (32 ∷ two) (plain_end (decimal e.clock) (32 ∷ three) (line.2 h)));
      },
      line.1,
    )
