use Rattle.std.proofs.Common.{◌≡◌, ◌∷◌, ◌++◌, take}
use Rattle.std.specs.List.{flat_map, AllWithin}
use Rattle.chorus_show.proofs.phrases.push_each.Given as goal

abbrev pub invariant-loop-field : goal.invariant-loop-field
invariant-loop-field g l = record {
  text : l.out.items ≡ l.initial.out.items ++ flat_map (λ x. 32 ∷ g.T.Field.text x) (take l.field-index l.fields);
  fits : AllWithin g.T.Field.fits l.fields 0 l.field-index;
}
