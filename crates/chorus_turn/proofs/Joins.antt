-- A pass that is retired into another keeps the rule of turns.
use Rattle.std.proofs.Common.{◌≡◌, ℕ, ◌+◌, Bool, true, false, cond, true≢false, List, ◌∷◌, ◌++◌, get_or, set, sym, refl, ap, ◌∙◌, arith}
use Rattle.std.proofs.lemmas.List.Elements.{All-append, All-cons}
use Rattle.atomic_table.specs.Table.{Joins}
use Rattle.atomic_table.proofs.Lists.{set_else}
use Rattle.chorus_turn.specs.declared.knowledge.Remarked.{Remarked}
use Rattle.chorus_turn.specs.declared.knowledge.Note.{Note}
use Rattle.chorus_turn.specs.declared.view.View.{View}
use Rattle.chorus_turn.specs.Lists.{list_at}
use Rattle.chorus_turn.specs.Knowing.{note_of}
use Rattle.chorus_turn.specs.Rule.{Grasp, Turned, IsAtRest, joined_view, spent_view}
use Rattle.chorus_turn.proofs.Counts.{nothing_in}
use Rattle.chorus_turn.proofs.Fronts.{list_at-longer, longer_starts}
use Rattle.chorus_turn.proofs.Views.{each_set, still_held}
use Rattle.chorus_turn.proofs.Numbers.{numbered_joined}

plain_either : (a b : Bool) → cond a true b ≡ false → b ≡ false
plain_either true b e = absurd (true≢false e)
plain_either false b e = e

counts_either : (a b : Bool) (m n k : ℕ) → (a ≡ true → m ≡ k) → (b ≡ true → n ≡ k) → cond a true b ≡ true → cond a m n ≡ k
counts_either true b m n k f g e = f refl
counts_either false b m n k f g e = g e

module _ {S R : Type 0} (journal : S → List (Remarked R) → Type 0) (marked : ℕ → S → Type 0) where
  pub joins : (id : ℕ) (v : View R) (other : ℕ) (w : View R) → IsAtRest v → IsAtRest w → Joins (Turned journal marked) id v other w (joined_view v w) spent_view
  joins id v other w rest rest' s r at ne at' = let b : View R = joined_view v w in let vs : List (View R) = set s.views id b in let there = sym (set_else s.views id other b ne) ∙ at' in
      let mine = r.each id v at rest.0 in let theirs = r.each other w there rest'.0 in record {
        work = r.work;
        log = r.log;
        wide = r.wide;
        numbered = numbered_joined (get_or s.words 0 0) s.views id v other w r.numbered at at' rest.0 rest'.0 (nothing_in w.drawn rest'.2);
        each = each_set (λ _ y. y.live ≡ true → Grasp r.work r.log s.words y) vs other spent_view (λ alive. absurd (true≢false (sym alive)))
            (λ j y _ e. each_set (λ _ z. z.live ≡ true → Grasp r.work r.log s.words z) s.views id b
            (λ _. record {
              sees = λ p. let l = longer_starts (r.log p) (list_at p v.knows.seen) (list_at p w.knows.seen) (mine.sees p) (theirs.sees p) in (l.0, l.1 ∙ ap (λ m. m ++ l.0) (sym (list_at-longer p v.knows.seen w.knows.seen)));
              saw = mine.sees;
              heard = theirs.sees;
              own = mine.own;
              noted = All-append (λ (n : Note R). n.mine ≡ r.work n.seat) v.knows.notes (note_of w.knows ∷ w.knows.notes) mine.noted (All-cons (λ (n : Note R). n.mine ≡ r.work n.seat) (note_of w.knows) w.knows.notes theirs.own theirs.noted);
              unused = mine.unused;
              counts = counts_either w.knows.keeper v.knows.keeper w.knows.made v.knows.made (get_or s.words 0 0) theirs.counts mine.counts;
              plain = λ e. mine.plain (plain_either w.knows.keeper v.knows.keeper e);
              holds = mine.holds;
            }) (λ i z _ f. r.each i z f) j y e);
        made = r.made;
        unmade = r.unmade;
        home = r.home;
        out = λ k inside taken. still_held vs other (k + 1) w spent_view at' (λ e. let z = rest'.1 in omega arith) (still_held s.views id (k + 1) v b at (λ e. let z = rest.1 in omega arith) (r.out k inside taken));
      }
