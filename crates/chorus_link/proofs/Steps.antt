-- Each step of a link keeps its rule, and tells what its outcome or lesson says.
use Rattle.std.proofs.Common.{◌≡◌, ◌≢◌, ℕ, true, true≢false, List, [], ◌∷◌, ◌++◌, length, set, sym, refl, ap, ◌∙◌, ⊎_elim, append_assoc}
use mathlib.Core.Option.{some}
use lib.ListN.{get_elem?}
use Rattle.crossbeam_queue.specs.Fifo.{Pushes, Pops, Forks, Merges, Learns}
use Rattle.crossbeam_queue.proofs.Lists.{at_set}
use Rattle.chorus_link.specs.declared.rule.Log.{Log}
use Rattle.chorus_link.specs.Rule.{log, Knows, Linked, sender_log, receiver_log, both_log, spent_log, PutThen, GotThen, WasPut, WasGot}
use Rattle.chorus_link.proofs.Beginnings.{starts_whole, starts_longer}
use Rattle.chorus_link.proofs.Views.{AllViews, all_set, all_more, all_one}

module _ {P : Type 0} where
  -- what another pass knows stays so when the putter puts more, when the getter gets more, and when there is a new getter
  put_more : {writer reader : ℕ} {put got : List P} {j : ℕ} {u : Log P} → Knows writer reader put got j u → j ≢ writer → (more : List P) → Knows writer reader (put ++ more) got j u
  put_more k other more = record {
    was_put = starts_longer _ _ more k.was_put;
    was_got = k.was_got;
    putter = λ writes. absurd (other (k.putter writes).0);
    getter = k.getter;
  }

  got_more : {writer reader : ℕ} {put got : List P} {j : ℕ} {u : Log P} → Knows writer reader put got j u → j ≢ reader → (more : List P) → Knows writer reader put (got ++ more) j u
  got_more k other more = record {
    was_put = k.was_put;
    was_got = starts_longer _ _ more k.was_got;
    putter = k.putter;
    getter = λ reads. absurd (other (k.getter reads).0);
  }

  new_getter : {writer reader : ℕ} {put got : List P} {j : ℕ} {u : Log P} → Knows writer reader put got j u → j ≢ reader → (next : ℕ) → Knows writer next put got j u
  new_getter k other next = record {
    was_put = k.was_put;
    was_got = k.was_got;
    putter = k.putter;
    getter = λ reads. absurd (other (k.getter reads).0);
  }

  pub begins : Linked {P = P} [] (log true true [] [] ∷ [])
  begins =
      let all : Knows {P = P} 0 0 [] [] 0 (log true true [] []) = record {
        was_put = starts_whole _ _ refl;
        was_got = starts_whole _ _ refl;
        putter = λ _. (refl, refl);
        getter = λ _. (refl, refl);
      } in
      record {
        writer = 0;
        reader = 0;
        put = [];
        got = [];
        in_order = refl;
        known = all_one (Knows 0 0 [] []) (log true true [] []) all;
      }

  pub puts : (n pass : ℕ) (v : Log P) (x : P) → v.puts ≡ true → Pushes Linked n pass v x (PutThen v x)
  puts n pass v x may items views _ h at =
      let all : List P = h.put ++ x ∷ [] in
      let w : Log P = log v.puts v.gets (v.put ++ x ∷ []) h.got in
      let mine = h.known pass v at in
      let whole : w.put ≡ all = ap (λ l. l ++ x ∷ []) (mine.putter may).1 in
      let now : Knows h.writer h.reader all h.got pass w = record {
        was_put = starts_whole _ _ (sym whole);
        was_got = starts_whole _ _ refl;
        putter = λ _. ((mine.putter may).0, whole);
        getter = λ reads. ((mine.getter reads).0, refl);
      } in
      let kept : Linked (items ++ x ∷ []) (set views pass w) = record {
        writer = h.writer;
        reader = h.reader;
        put = all;
        got = h.got;
        in_order = ap (λ l. l ++ x ∷ []) h.in_order ∙ append_assoc h.got items (x ∷ []);
        known = all_set (Knows h.writer h.reader all h.got) views pass w now
            (λ j u other e. put_more (h.known j u e) (λ is. other (is ∙ sym (mine.putter may).0)) (x ∷ []));
      } in
      (w, kept, record { roles = (refl, refl); put = refl; got = mine.was_got })

  pub was_put : (pass : ℕ) (v : Log P) → v.puts ≡ true → Learns Linked pass v (WasPut v)
  was_put pass v may items views h at =
      let mine = h.known pass v at in
      record { got = h.got; in_order = (mine.putter may).1 ∙ h.in_order; known = mine.was_got }

  pub gets : (pass : ℕ) (v : Log P) → v.gets ≡ true → Pops Linked pass v (GotThen v)
  gets pass v may x items views h at =
      let all : List P = h.got ++ x ∷ [] in
      let w : Log P = log v.puts v.gets h.put (v.got ++ x ∷ []) in
      let mine = h.known pass v at in
      let whole : w.got ≡ all = ap (λ l. l ++ x ∷ []) (mine.getter may).1 in
      let behind : h.put ≡ all ++ items = h.in_order ∙ sym (append_assoc h.got (x ∷ []) items) in
      let now : Knows h.writer h.reader h.put all pass w = record {
        was_put = starts_whole _ _ refl;
        was_got = starts_whole _ _ (sym whole);
        putter = λ writes. ((mine.putter writes).0, refl);
        getter = λ _. ((mine.getter may).0, whole);
      } in
      let kept : Linked items (set views pass w) = record {
        writer = h.writer;
        reader = h.reader;
        put = h.put;
        got = all;
        in_order = behind;
        known = all_set (Knows h.writer h.reader h.put all) views pass w now
            (λ j u other e. got_more (h.known j u e) (λ is. other (is ∙ sym (mine.getter may).0)) (x ∷ []));
      } in
      let told : GotThen v x w = record {
        roles = (refl, refl);
        got = refl;
        put = mine.was_put;
        within = (items, behind ∙ ap (λ l. l ++ items) (sym whole));
        whole = λ writes. sym (mine.putter writes).1;
      } in
      (w, kept, told)

  pub was_got : (pass : ℕ) (v : Log P) → v.gets ≡ true → Learns Linked pass v (WasGot v)
  was_got pass v may items views h at =
      let mine = h.known pass v at in
      record {
        put = h.put;
        in_order = h.in_order ∙ ap (λ l. l ++ items) (sym (mine.getter may).1);
        known = mine.was_put;
        whole = λ writes. sym (mine.putter writes).1;
      }

  pub forks : (pass : ℕ) (v : Log P) → v.puts ≡ true → v.gets ≡ true → Forks Linked pass v (sender_log v) (receiver_log v)
  forks pass v writes reads items views h at =
      let mine = h.known pass v at in
      let both : List (Log P) = set views pass (sender_log v) in
      let next : ℕ = length both in
      let sender : Knows h.writer next h.put h.got pass (sender_log v) = record {
        was_put = mine.was_put;
        was_got = mine.was_got;
        putter = λ _. mine.putter writes;
        getter = λ no. absurd (true≢false (sym no));
      } in
      let receiver : Knows h.writer next h.put h.got next (receiver_log v) = record {
        was_put = mine.was_put;
        was_got = mine.was_got;
        putter = λ no. absurd (true≢false (sym no));
        getter = λ _. (refl, (mine.getter reads).1);
      } in
      let before : AllViews (Knows h.writer next h.put h.got) both =
      all_set (Knows h.writer next h.put h.got) views pass (sender_log v) sender
      (λ j u other e. new_getter (h.known j u e) (λ is. other (is ∙ sym (mine.getter reads).0)) next) in
      record {
        writer = h.writer;
        reader = next;
        put = h.put;
        got = h.got;
        in_order = h.in_order;
        known = all_more (Knows h.writer next h.put h.got) both (receiver_log v) before receiver;
      }

  pub merges : (pass : ℕ) (v : Log P) (other : ℕ) (u : Log P) → v.puts ≡ true → u.gets ≡ true → Merges Linked pass v other u (both_log v u) spent_log
  merges pass v other u writes reads items views h at apart at_other =
      let mine = h.known pass v at in
      let one : List (Log P) = set views pass (both_log v u) in
      let was : get_elem? views other ≡ some u = ⊎_elim (λ here. absurd (apart here.0)) (λ there. there.1) (at_set views pass other (both_log v u) u at_other) in
      let theirs = h.known other u was in
      let whole : Knows h.writer pass h.put h.got pass (both_log v u) = record {
        was_put = mine.was_put;
        was_got = theirs.was_got;
        putter = λ _. mine.putter writes;
        getter = λ _. (refl, (theirs.getter reads).1);
      } in
      let spent : Knows h.writer pass h.put h.got other spent_log = record {
        was_put = (h.put, refl);
        was_got = (h.got, refl);
        putter = λ no. absurd (true≢false (sym no));
        getter = λ no. absurd (true≢false (sym no));
      } in
      let Rest : ℕ → Log P → Type 0 = λ j y. j ≢ other → Knows h.writer pass h.put h.got j y in
      let rest : AllViews Rest one = all_set Rest views pass (both_log v u) (λ _. whole)
      (λ j y _ e not_other. new_getter (h.known j y e) (λ is. not_other (is ∙ sym (theirs.getter reads).0)) pass) in
      record {
        writer = h.writer;
        reader = pass;
        put = h.put;
        got = h.got;
        in_order = h.in_order;
        known = all_set (Knows h.writer pass h.put h.got) one other spent_log spent (λ j y not_other e. rest j y e not_other);
      }

-- what a step owes, of each kind but the push, which no search finds
pub ruleset steps = (begins, gets, was_got, forks, merges)
