-- The laws of graphs that the laws of the walk stand on.
use Rattle.type_readings.specs.Laws.{RootIsRoot, RootIsEqual, BuiltInIsWellFormed, BuiltInIsGiving, VariableKeepsForm, VariableAsksNothing, VariableKeepsGiving, ApplicationKeepsForm, ApplicationIsRead, ApplicationKeepsGiving, KeepsForm, KeepsNumbers, Equates, UnifyKeepsGiving, FixedStay, OuterKeepsForm, OuterAsksNothing, OuterKeepsGiving, EndKeepsForm, EndAsksNothing, EndIsCopyable, CopyIsNumber, CopyKeepsForm, CopyKeepsCopyable, CopyKeepsReadings, CopyReads, CopyableIsGiving}
use Rattle.type_readings.specs.OuterLaws.{VariableKeepsFixed, VariableKeepsOuter, ApplicationKeepsFixed, ApplicationIsFixed, ApplicationKeepsOuter, UnifyKeepsOuter, OuterKeepsNumbers, OuterKeepsFixed, OuterKeepsOuter, TheyBecomeOuter, EndKeepsNumbers, EndKeepsFixed, EndMakesOuter, CopyKeepsNumbers, CopyKeepsFixed, CopyKeepsOuter}
use Rattle.type_readings.specs.SignatureRules.{SignatureIsMade, SignatureHasNumbers, SignatureIsSound}

pub record GraphLaws : Type 0 where
  pub root_root : RootIsRoot
  pub root_equal : RootIsEqual
  pub first_form : BuiltInIsWellFormed
  pub first_giving : BuiltInIsGiving
  pub variable_form : VariableKeepsForm
  pub variable_reads : VariableAsksNothing
  pub variable_giving : VariableKeepsGiving
  pub variable_fixed : VariableKeepsFixed
  pub variable_outer : VariableKeepsOuter
  pub applied_form : ApplicationKeepsForm
  pub applied_reads : ApplicationIsRead
  pub applied_giving : ApplicationKeepsGiving
  pub applied_fixed : ApplicationKeepsFixed
  pub applied_itself : ApplicationIsFixed
  pub applied_outer : ApplicationKeepsOuter
  pub unified_form : KeepsForm
  pub unified_numbers : KeepsNumbers
  pub unified_reads : Equates
  pub unified_giving : UnifyKeepsGiving
  pub unified_fixed : FixedStay
  pub unified_outer : UnifyKeepsOuter
  pub outer_form : OuterKeepsForm
  pub outer_numbers : OuterKeepsNumbers
  pub outer_reads : OuterAsksNothing
  pub outer_giving : OuterKeepsGiving
  pub outer_fixed : OuterKeepsFixed
  pub outer_outer : OuterKeepsOuter
  pub outer_made : TheyBecomeOuter
  pub end_form : EndKeepsForm
  pub end_numbers : EndKeepsNumbers
  pub end_reads : EndAsksNothing
  pub end_copyable : EndIsCopyable
  pub end_fixed : EndKeepsFixed
  pub end_outer : EndMakesOuter
  pub copy_number : CopyIsNumber
  pub copy_form : CopyKeepsForm
  pub copy_numbers : CopyKeepsNumbers
  pub copy_reads : CopyKeepsReadings
  pub copy_read : CopyReads
  pub copy_copyable : CopyKeepsCopyable
  pub copy_fixed : CopyKeepsFixed
  pub copy_outer : CopyKeepsOuter
  pub copyable_giving : CopyableIsGiving
  pub signature_made : SignatureIsMade
  pub signature_numbers : SignatureHasNumbers
  pub signature_sound : SignatureIsSound
