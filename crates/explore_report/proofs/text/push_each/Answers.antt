use Rattle.std.proofs.Common.{ℕ, zero, suc, ◌≡◌, ◌+◌, ◌++◌, ◌∷◌, List, [], length, map, drop, Some, slice_get, refl, sym, ◌∙◌, ap, ap₂, arith, append_assoc, codes}
use Rattle.std.proofs.lemmas.Option.{slice_get_read}
use Rattle.std.proofs.lemmas.List.{length-map}
use Rattle.chorus_show.specs.Journal.{count_line}
use Rattle.explore_report.specs.declared.findings.Finding.{Finding}
use Rattle.explore_report.specs.declared.lines.Lines as lines
use Rattle.explore_report.specs.Lines.{line_of, lines_in, lines_of_all, lines_of_one, texts_lines}
use Rattle.explore_report.specs.Reports.{outcomes_from, rest_text}
use Rattle.explore_report.proofs.text.push_each.Goals as goal

drop-at : (fs : List Finding) (i : ℕ) (f : Finding) → slice_get fs i ≡ Some f → drop i fs ≡ f ∷ drop (i + 1) fs
drop-at [] i f e = absurd (cc)
drop-at (g ∷ fs) zero f e = (let same : g ≡ f = cc in ap (λ (z : Finding). z ∷ fs) same)
drop-at (g ∷ fs) (suc i) f e = (let n : i + 1 ≡ suc i = omega arith in let m : suc i + 1 ≡ suc (suc i) = omega arith in drop-at fs i f e ∙ ap (λ (k : ℕ). f ∷ drop k fs) n ∙ sym (ap (λ (k : ℕ). f ∷ drop k (g ∷ fs)) m))

lines-at : (all : List lines.Lines) (fs : List Finding) (i : ℕ) (l : lines.Lines) (f : Finding) → lines_of_all all ≡ texts_lines fs → slice_get all i ≡ Some l → slice_get fs i ≡ Some f → lines_of_one l ≡ lines_in f.text.items
lines-at [] fs i l f same e d = absurd (cc)
lines-at (x ∷ all) [] i l f same e d = absurd (cc)
lines-at (x ∷ all) (g ∷ fs) zero l f same e d =
    let one : x ≡ l = cc in
    let other : g ≡ f = cc in
    let heads : lines_of_one x ≡ lines_in g.text.items = cc in
    sym (ap lines_of_one one) ∙ heads ∙ ap (λ (z : Finding). lines_in z.text.items) other
lines-at (x ∷ all) (g ∷ fs) (suc i) l f same e d = lines-at all fs i l f (let tails : lines_of_all all ≡ texts_lines fs = cc in tails) e d

as-long : (all : List lines.Lines) (fs : List Finding) → lines_of_all all ≡ texts_lines fs → length all ≡ length fs
as-long all fs same = (let a = length-map all lines_of_one in let b = length-map fs (λ (f : Finding). lines_in f.text.items) in let e = ap length same in omega (arith, a, b, e))

joined : (t a b c d z : List ℕ) → ((((t ++ a) ++ b) ++ c) ++ d) ++ z ≡ t ++ ((((a ++ b) ++ c) ++ d) ++ z)
joined t a b c d z =
    ap (λ x. ((x ++ c) ++ d) ++ z) (append_assoc t a b) ∙ ap (λ x. (x ++ d) ++ z) (append_assoc t (a ++ b) c) ∙ ap (λ x. x ++ z) (append_assoc t ((a ++ b) ++ c) d)
    ∙ append_assoc t (((a ++ b) ++ c) ++ d) z

pub loop-index-preserved : goal.loop-index-preserved
loop-index-preserved c =
    let items = c.args.items.now in
    let all = c.args.all.now in
    let always = map line_of c.args.always.now in
    let i = c.loop-index.index in
    let f = c.index-items-index.result in
    let l = c.index-all-index.result in
    let as-many = as-long all items c.requires in
    let at = slice_get_read items (length items) i f refl c.loop-index-test.true c.index-items-index.is in
    let here = slice_get_read all (length all) i l refl (let a = c.loop-index-test.true in omega (arith, a, as-many)) c.index-all-index.is in
    let own : c.deref.result.now ≡ c.index-all-index.result.lines.items = c.deref.ensures.value ∙ ap (λ (x : lines.Lines). x.lines.items) (sym c.index-all-index.is) in
    let lines : map line_of c.deref.result.now ≡ lines_in c.index-items-index.result.text.items = ap (map line_of) own ∙ lines-at all items i l f c.requires here at in
    let rest = outcomes_from (i + 1 + 1) always (drop (i + 1) items) in
    let one = 10 ∷ [] in
    let two = count_line (codes "outcome") (i + 1) in
    let three = count_line (codes "histories") f.histories in
    let four = rest_text always (lines_in f.text.items) in
    let pushed : c.push_rest.new.text.items ≡ (((c.loop-index.text.items ++ one) ++ two) ++ three) ++ four =
    c.in_ok-push_rest.ensures ∙ ap₂ (λ t ls. t ++ rest_text always ls) (c.in_ok-push_count-2.ensures ∙ ap (λ (x : Finding). c.push_count.new.text.items ++ count_line (codes "histories") x.histories) (sym c.index-items-index.is) ∙ ap (λ t. t ++ three) (c.in_ok-push_count.ensures ∙ ap (λ t. t ++ two) c.in_ok-push.ensures.items)) lines in
    ap (λ t. t ++ rest) pushed ∙ joined c.loop-index.text.items one two three four rest
    ∙ sym (ap (λ fs. c.loop-index.text.items ++ outcomes_from (i + 1) always fs) (drop-at items i f at)) ∙ c.loop-index.invariant
