-- What one pass over a list or a journal reads.
use Rattle.std.proofs.Common.{◌≡◌, ℕ, ◌+◌, Bool, true, false, cond, Option, Some, None, List, [], ◌∷◌, ◌++◌, ◌<◌, length, take, get_or, reverse, refl, sym, ◌∙◌, ap}
use Rattle.std.specs.Option.{option_or}
use Rattle.std.proofs.lemmas.List.{take_more, reverse-append}
use Rattle.chorus_entry.specs.declared.entry.Entry.{Entry}
use Rattle.chorus_entry.specs.declared.id.MsgId.{MsgId}
use Rattle.chorus_world.specs.Views.{is_by, by}
use Rattle.chorus_world.specs.Posts.{Posted, posted_by, posted_in}
use Rattle.chorus_place.specs.Outcomes.{goes_to, dest_by}

-- the entries of a journal, with one more
pub next-entry : (es : List Entry) (i : ℕ) (e : Entry) → i < length es → e ≡ get_or es i e → reverse (take (i + 1) es) ≡ e ∷ reverse (take i es)
next-entry es i e h is = ap reverse (take_more es i e h) ∙ ap (λ x. reverse (take i es ++ x ∷ [])) (sym is) ∙ reverse-append (take i es) (e ∷ [])

-- where a post goes, with one entry more
pub dest_more : (x : MsgId) (e : Entry) (here : List Entry) → goes_to (posted_in x (by x.seat (e ∷ here))) ≡ option_or (goes_to (posted_in x (by x.seat here))) (dest_by x e)
dest_more x e here = cases (is_by x.seat e) (posted_in x (by x.seat here)) refl
  where
    cases : (b : Bool) (o : Option Posted) → posted_in x (by x.seat here) ≡ o
        → goes_to (posted_in x (cond b (e ∷ by x.seat here) (by x.seat here))) ≡ option_or (goes_to o) (cond b (goes_to (posted_by x e.place e.act)) None)
    cases true None h = ap (λ o. goes_to (option_or o (posted_by x e.place e.act))) h
    cases true (Some m) h = ap (λ o. goes_to (option_or o (posted_by x e.place e.act))) h
    cases false None h = ap goes_to h
    cases false (Some m) h = ap goes_to h
