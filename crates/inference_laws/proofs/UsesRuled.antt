-- The laws of uses of constructors and fields.
use Rattle.std.proofs.Common.{ℕ, List, ◌∙◌, ap, arith, refl}
use Rattle.ml_infer.specs.declared.inference.Inference.{Inference}
use Rattle.ml_infer.specs.declared.members.Members.{Members}
use Rattle.ml_infer.specs.Constructors.{field_type, instance}
use Rattle.ml_infer.specs.Members.{count_of}
use Rattle.inference_laws.specs.Whole.{IsWhole}
use Rattle.inference_laws.specs.RuleLaws.{ConstructorIsRuled, EffectIsRuled, FieldIsRuled, MutableIsRuled, RecordIsRuled, TaskKeepsMembers}
use Rattle.inference_laws.proofs.Kept.{Kept, kept_here, room_before}
use Rattle.inference_laws.proofs.GraphLaws.{GraphLaws}
use Rattle.inference_laws.proofs.Constructors.{field_made, instance_made}
use Rattle.inference_laws.proofs.Instances.{instance_is, instance_leads}
use Rattle.inference_laws.proofs.Rules.{constructed_is}
use Rattle.inference_laws.proofs.FieldRules.{field_has, mutable_is, owner_there}
use Rattle.inference_laws.proofs.AnswerRules.{effect_answers}
use Rattle.inference_laws.proofs.WalkMembers.{acted_stays}
use Rattle.inference_laws.proofs.FieldNames.{fields_counted, names_each_field}

-- a whole state is kept in itself
whole_here : (s : Inference) → IsWhole s → Kept s s
whole_here s whole = record {
  types = omega arith;
  arguments = omega arith;
  first = whole.types.built_in;
  ended = λ e. e;
  reads = λ room e f is. is;
  outer = λ room e n low is. is;
  counted = refl;
  numbered = λ h. h;
  whole = λ room. whole;
}

pub constructor_is_ruled_law : GraphLaws → ConstructorIsRuled
constructor_is_ruled_law l p con at s arena below effects met whole meant room on f first reads =
    constructed_is l p arena below s s (whole_here s whole) at effects con met room on meant f first reads

pub effect_is_ruled_law : GraphLaws → EffectIsRuled
effect_is_ruled_law l p n at s arena below effects low whole meant room on f first reads =
    effect_answers l p arena below effects s s (whole_here s whole) at n low room on meant f first reads

pub field_is_ruled_law : GraphLaws → FieldIsRuled
field_is_ruled_law l p field t at s arena below owner whole meant room on f reads =
    let kept = whole_here s whole in
    let m = instance p t s in
    let k = instance_made l p t s s kept in
    let u = field_type p field m.value.variables at m.state in
    let onward = (field_made l p m.value.variables at m.state m.state (kept_here s m.state k.kept) k.variables field).0 in
    let before = room_before m.state u.state onward room in
    let is = instance_is l p s s kept t (owner_there p arena field t owner) f before (onward.reads room on f reads) in
    field_has l p arena s m.state k.kept at field below t owner s k.variables room on
    ((instance_leads l p s s kept t).meant before (onward.ended on) meant) f reads is

pub mutable_is_ruled_law : MutableIsRuled
mutable_is_ruled_law p field at s low on = mutable_is p at field s low on

pub record_is_ruled_law : RecordIsRuled
record_is_ruled_law p most t part parts s low few same named ts =
    names_each_field p t low part parts s (ap (λ (m : Members). count_of m t) same ∙ fields_counted t p most few) named ts

pub task_keeps_members_law : TaskKeepsMembers
task_keeps_members_law t p s = (
  ap (λ (m : Members × Members × List ℕ). m.0) (acted_stays p t s),
  ap (λ (m : Members × Members × List ℕ). m.1)
      (acted_stays p t s),
)
