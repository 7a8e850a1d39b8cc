use Rattle.std.proofs.Common.{◌+◌, [], ◌∷◌, reverse, ap, sym, ◌∙◌, subst}
use Rattle.std.proofs.lemmas.List.{reverse-append}
use Rattle.place_journal.specs.Counting.{MayFollow, IsCounted}
use Rattle.place_journal.proofs.Counted.{counted}
use Rattle.place_journal.proofs.journal.Journal.append.Goals as goal

pub invariant_of-self : goal.invariant_of-self
invariant_of-self c =
    let may = subst (λ v. MayFollow v.layout v.groups c.args.entry.act) (sym c.self.view_is) c.requires.follows in
    let past = ap reverse c.push_reserved.ensures.items ∙ reverse-append c.self.inside.entries.items (c.args.entry ∷ []) in (
      c.mark_made.ensures.layout,
      c.mark_deleted.ensures.layout,
      subst (λ entries. IsCounted entries c.args.entry.clock (c.self.inside.made_count + c.count_made.result) c.mark_made.new.made c.mark_deleted.new.deleted c.change.new.groups) (sym past)
          (counted c.self.inside.layout (reverse c.self.inside.entries.items) c.args.entry c.self.inside.clock c.self.inside.made_count c.count_made.result
          c.self.inside.made c.mark_made.new.made c.self.inside.deleted c.mark_deleted.new.deleted c.self.inside.groups c.change.new.groups c.self.invariant.2 may c.count_made.ensures.made
          c.count_made.ensures.within c.mark_made.ensures.marks c.mark_deleted.ensures.marks c.change.ensures),
    )
