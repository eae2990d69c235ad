use Rattle.std.proofs.Common.{◌∙◌, sym, ap, map}
use Rattle.std.specs.Prelude.{◌∷◌, option_and_then, option_map}
use Rattle.std.specs.String.{string_bytes}
use Rattle.effects_top.specs.Words.{seen_said, said_by}
use Rattle.effects_top.proofs.Wording.{says, said_file, after_joined, after_option}
use Rattle.effects_top.proofs.words.+said_by.Goals as goal

pub returns-then-is_file-clause-said : goal.returns-then-is_file-clause-said
returns-then-is_file-clause-said t c =
    let split = ap (map string_bytes) c.in-Some.ensures.cases.0 in
    let said = says c.with_file.result c.in_ok-with_file.field-0 _ c.with_file.ensures.said c.in_ok-with_file.was in
    c.said_by.ensures.said
    ∙ sym (ap (option_and_then (said_by (map string_bytes c.in-Some.rest.now))) (rw c.as_str-then-is_file.ensures.value at said))
    ∙ sym (said_file (string_bytes c.in-Some.word.now) (map string_bytes c.in-Some.rest.now) (seen_said c.args.said.now) (rw c.as_str.ensures.value at (sym c.is_file.ensures ∙ c.if-is_file.true)))
    ∙ ap (λ ws. said_by ws (seen_said c.args.said.now)) (sym split)

pub returns-in_err-with_option-clause-said : goal.returns-in_err-with_option-clause-said
returns-in_err-with_option-clause-said t c =
    let split = ap (map string_bytes) c.in-Some.ensures.cases.0 in
    let next = after_joined _ _ (string_bytes c.in-Some.word.now) _ (map string_bytes c.in-Some.rest.now) (seen_said c.args.said.now) _ c.as_str.ensures.value c.as_str-2.ensures.value (sym c.is_file.ensures ∙ c.if-is_file.false) c.in-Some-joined_parts.ensures c.with_option.ensures.said in
    ap (option_map seen_said) c.from_residual-in_err-with_option.ensures
    ∙ sym (next ∙ ap (λ o. option_and_then (said_by (map string_bytes c.in-Some.rest.now)) (option_map seen_said o)) c.in_err-with_option.was)
    ∙ ap (λ ws. said_by ws (seen_said c.args.said.now)) (sym split)

pub returns-in-Some-joined_parts-clause-said : goal.returns-in-Some-joined_parts-clause-said
returns-in-Some-joined_parts-clause-said t c =
    let split = ap (map string_bytes) c.in-Some.ensures.cases.0 in
    let next = after_joined _ _ (string_bytes c.in-Some.word.now) _ (map string_bytes c.in-Some.rest.now) (seen_said c.args.said.now) _ c.as_str.ensures.value c.as_str-2.ensures.value (sym c.is_file.ensures ∙ c.if-is_file.false) c.in-Some-joined_parts.ensures c.with_option.ensures.said in
    c.said_by-in-Some-joined_parts.ensures.said
    ∙ sym (next ∙ ap (λ o. option_and_then (said_by (map string_bytes c.in-Some.rest.now)) (option_map seen_said o)) c.in_ok-with_option.was)
    ∙ ap (λ ws. said_by ws (seen_said c.args.said.now)) (sym split)

pub returns-clause-said : goal.returns-clause-said
returns-clause-said t c =
    let split = ap (map string_bytes) (c.in-Some.ensures.cases.0 ∙ ap (λ ws. c.in-Some.word.now ∷ ws) c.in_ok-text.ensures.cases.0) in
    let next = after_option _ _ (string_bytes c.in-Some.word.now) (string_bytes c.in_ok-text.text.now) _ _ (map string_bytes c.in_ok-text.rest.now) (seen_said c.args.said.now) _ c.as_str.ensures.value c.as_str-2.ensures.value c.as_str-3.ensures.value c.as_str-4.ensures.value (sym c.is_file.ensures ∙ c.if-is_file.false) c.in_default-joined_parts.ensures c.with_option-2.ensures.said in
    c.said_by-2.ensures.said
    ∙ sym (next ∙ ap (λ o. option_and_then (said_by (map string_bytes c.in_ok-text.rest.now)) (option_map seen_said o)) c.in_ok-with_option-2.was)
    ∙ ap (λ ws. said_by ws (seen_said c.args.said.now)) (sym split)
