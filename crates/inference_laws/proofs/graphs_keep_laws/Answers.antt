use Rattle.inference_laws.proofs.graphs_keep_laws.Goals as goal

-- src/lib.rt
pub returns : goal.returns
returns c = record {
  root_root = c.root_is_read.ensures.root;
  root_equal = c.root_is_read.ensures.equal;
  first_form = c.making_keeps_form.ensures.built_in;
  first_giving = c.making_keeps_giving.ensures.built_in;
  variable_form = c.making_keeps_form.ensures.variable;
  variable_reads = c.making_is_read.ensures.variable;
  variable_giving = c.making_keeps_giving.ensures.variable;
  variable_fixed = c.fixed_types_stay.ensures.variable;
  variable_outer = c.outer_types_stay.ensures.variable;
  applied_form = c.making_keeps_form.ensures.applied;
  applied_reads = c.making_is_read.ensures.applied;
  applied_giving = c.making_keeps_giving.ensures.applied;
  applied_fixed = c.fixed_types_stay.ensures.applied;
  applied_itself = c.fixed_types_stay.ensures.itself;
  applied_outer = c.outer_types_stay.ensures.applied;
  unified_form = c.unify_keeps_form.ensures.form;
  unified_numbers = c.unify_keeps_form.ensures.numbers;
  unified_reads = c.unify_equates.ensures;
  unified_giving = c.unify_keeps_giving.ensures.giving;
  unified_fixed = c.unify_keeps_giving.ensures.fixed;
  unified_outer = c.outer_types_stay.ensures.equated;
  outer_form = c.outer_is_read.ensures.outer_form;
  outer_numbers = c.numbers_are_kept.ensures.outer;
  outer_reads = c.outer_is_read.ensures.outer_reads;
  outer_giving = c.outer_keeps_giving.ensures.made;
  outer_fixed = c.fixed_types_stay.ensures.outer;
  outer_outer = c.outer_types_stay.ensures.outer;
  outer_made = c.outer_types_stay.ensures.made_outer;
  end_form = c.outer_is_read.ensures.end_form;
  end_numbers = c.numbers_are_kept.ensures.ended;
  end_reads = c.outer_is_read.ensures.end_reads;
  end_copyable = c.outer_is_copyable.ensures.ended;
  end_fixed = c.fixed_types_stay.ensures.ended;
  end_outer = c.outer_types_stay.ensures.ended;
  copy_number = c.copy_keeps_form.ensures.number;
  copy_form = c.copy_keeps_form.ensures.form;
  copy_numbers = c.numbers_are_kept.ensures.copied;
  copy_reads = c.copy_keeps_types.ensures.readings;
  copy_read = c.copy_stands_for_original.ensures.reads;
  copy_copyable = c.copy_keeps_form.ensures.copyable;
  copy_fixed = c.fixed_types_stay.ensures.copied;
  copy_outer = c.outer_types_stay.ensures.copied;
  copyable_giving = c.making_keeps_giving.ensures.copied;
  signature_made = c.signatures_are_made.ensures.made;
  signature_numbers = c.signatures_are_made.ensures.numbers;
  signature_sound = c.signatures_are_rules.ensures.sound;
}
