use Rattle.std.proofs.Common.{refl}
use Rattle.chorus_claims.specs.Shapes.{fault_of}
use Rattle.chorus_claims.proofs.fault.fault_of.Goals as goal

pub returns : goal.returns
unfolding fault_of
returns c =
    rw (c.first_fault.ensures, c.are_facts.ensures, c.each_word.ensures, c.are_within.ensures, c.each_word-2.ensures, c.split_form-form.ensures.form, c.split_form-form.ensures.facts, c.long_form.ensures, c.split_throughout-throughout.ensures.throughout, c.split_throughout-throughout.ensures.asked)
    refl
