-- The run of a program that prints the value of an expression.
use Rattle.std.proofs.Common.{◌≡◌, ℕ, zero, suc, ◌+◌, ◌-◌, ◌%◌, ◌^◌, ◌<◌, ℤ, pos, neg_ℤ, List, [], ◌∷◌, Option, Some, None, Bool, refl, sym, ap, ◌∙◌, subst, arith, map}
use Rattle.std.specs.Prelude.{slice_get, if◌then◌else◌}
use Rattle.std.proofs.lemmas.Bool.{lt-ltb}
use Rattle.effect_meaning.specs.Terms.{Place, UnitConst, ConstPat, PrintInt, Prim, NoTerms, AndTerm, Program}
use Rattle.effect_meaning.specs.Numbers.{bits, of_bits, wrap}
use Rattle.effect_meaning.specs.Texts.{decimal}
use Rattle.effect_meaning.specs.Config.{Num, Scope, Operating, Frame, Parts, Items, Destructures, Root, Look, ForItem, Doing, Eval, Return, Testing, Gave, Live, Done, Exited, Config}
use Rattle.effect_meaning.specs.Focus.{given, unit}
use Rattle.effect_meaning.specs.Evaluation.{item_scope}
use Rattle.effect_meaning.specs.Domains.{freed}
use Rattle.effect_meaning.specs.Step.{step}
use Rattle.effect_meaning.specs.Run.{start, runs}
use Rattle.effects_top.specs.declared.reader.Arith.{Arith}
use Rattle.effects_top.specs.declared.reader.Arith.TheVariants.{Plus, Minus, Times}
use Rattle.effects_top.specs.Expression.{Expression, Number, Binary, AreIntegers, operation_of, term_of, program_of}
use Rattle.effects_top.specs.Standing.{IsOf}
use Rattle.effects_top.proofs.Integers.{on_integers, on_bits, on_bits_small, bits_done, bits_of_bits}

-- so many steps of domain 0
abbrev pub zeros : ℕ → List ℕ
zeros zero = []
zeros (suc n) = 0 ∷ zeros n

-- so many steps of domain 0, which is in slot 0, lead from one configuration to another
pub record Leads (p : Program) (n : ℕ) (c c' : Config) : Type 0 where
  pub to : runs p c (zeros n) ≡ Some c'
  pub own : IsOf p 0 (zeros n) (Some c)

pub leads_none : (p : Program) (c : Config) → Leads p 0 c c
leads_none p c = record { to = refl; own = tt }

pub leads_step : (p : Program) (n : ℕ) (c d c' : Config) → slice_get c.slots 0 ≡ Some (Some 0) → step p c 0 ≡ Some d → Leads p n d c' → Leads p (suc n) c c'
leads_step p n c d c' slot e l = record {
  to = ap (λ o. given o (λ x. runs p x (zeros n))) e ∙ l.to;
  own = (slot, subst (IsOf p 0 (zeros n)) (sym e) l.own);
}

given_on : (p : Program) (n k : ℕ) (o : Option Config) → ((c : Config) → runs p c (zeros (n + k)) ≡ given (runs p c (zeros n)) (λ x. runs p x (zeros k))) → given o (λ c. runs p c (zeros (n + k))) ≡ given (given o (λ c. runs p c (zeros n))) (λ x. runs p x (zeros k))
given_on p n k None ih = refl
given_on p n k (Some c) ih = ih c

-- a run in two parts
pub runs_on : (p : Program) (n k : ℕ) (c : Config) → runs p c (zeros (n + k)) ≡ given (runs p c (zeros n)) (λ x. runs p x (zeros k))
runs_on p zero k c = let e : zero + k ≡ k = omega arith in ap (λ j. runs p c (zeros j)) e
runs_on p (suc n) k c =
    let e : suc n + k ≡ suc (n + k) = omega arith in
    ap (λ j. runs p c (zeros j)) e ∙ given_on p n k (step p c 0) (λ x. runs_on p n k x)

-- the steps of the second part are the domain's too, and those of the first one with it
pub own_on : (p : Program) (n k : ℕ) (o : Option Config) → IsOf p 0 (zeros n) o → IsOf p 0 (zeros k) (given o (λ c. runs p c (zeros n))) → IsOf p 0 (zeros (n + k)) o
own_on p zero k None a b = let e : k ≡ zero + k = omega arith in subst (λ j. IsOf p 0 (zeros j) None) e b
own_on p zero k (Some c) a b = let e : k ≡ zero + k = omega arith in subst (λ j. IsOf p 0 (zeros j) (Some c)) e b
own_on p (suc n) k None a b = absurd a
own_on p (suc n) k (Some c) a b =
    let e : suc (n + k) ≡ suc n + k = omega arith in
    subst (λ j. IsOf p 0 (zeros j) (Some c)) e (a.0, own_on p n k (step p c 0) a.1 b)

pub own_later : (p : Program) (n k : ℕ) (o : Option Config) → IsOf p 0 (zeros (n + k)) o → IsOf p 0 (zeros k) (given o (λ c. runs p c (zeros n)))
own_later p zero k None a = let e : zero + k ≡ k = omega arith in subst (λ j. IsOf p 0 (zeros j) None) e a
own_later p zero k (Some c) a = let e : zero + k ≡ k = omega arith in subst (λ j. IsOf p 0 (zeros j) (Some c)) e a
own_later p (suc n) k None a = absurd (let e : suc n + k ≡ suc (n + k) = omega arith in subst (λ j. IsOf p 0 (zeros j) None) e a)
own_later p (suc n) k (Some c) a = own_later p n k (step p c 0) (let e : suc n + k ≡ suc (n + k) = omega arith in subst (λ j. IsOf p 0 (zeros j) (Some c)) e a).1

pub leads_on : (p : Program) (n k : ℕ) (a b c : Config) → Leads p n a b → Leads p k b c → Leads p (n + k) a c
leads_on p n k a b c x y = record {
  to = runs_on p n k a ∙ ap (λ o. given o (λ z. runs p z (zeros k))) x.to ∙ y.to;
  own = own_on p n k (Some a) x.own (subst (IsOf p 0 (zeros k)) (sym x.to) y.own);
}

-- the value of an expression
abbrev pub value : Expression → ℤ
value (Number n) = pos n
value (Binary operation a b) = wrap (on_integers operation (value a) (value b))

-- its 63 bits
abbrev pub value_bits : Expression → ℕ
value_bits (Number n) = n
value_bits (Binary operation a b) = on_bits operation (value_bits a) (value_bits b)

pub value_bits_small : (e : Expression) → AreIntegers e → value_bits e < 2 ^ 63
value_bits_small (Number n) h = omega (arith, h)
value_bits_small (Binary operation a b) h = on_bits_small operation (value_bits a) (value_bits b)

-- the value is the integer of its bits
pub value_is : (e : Expression) → AreIntegers e → (value e ≡ of_bits (value_bits e)) × (bits (value e) ≡ value_bits e)
value_is (Number n) h =
    let e : n % 2 ^ 63 ≡ n = omega (arith, h) in
    (sym (ap (λ (b : Bool). if b then pos n else neg_ℤ (pos (2 ^ 63 - n))) (lt-ltb n (2 ^ 62) h)), e)
value_is (Binary operation a b) h =
    let x = value_is a h.0 in
    let y = value_is b h.1 in
    let z : bits (on_integers operation (value a) (value b)) ≡ value_bits (Binary operation a b) =
    bits_done operation (value a) (value b) ∙ ap (λ k. on_bits operation k (bits (value b))) x.1 ∙ ap (on_bits operation (value_bits a)) y.1 in
    (ap of_bits z, ap (λ k. bits (of_bits k)) z ∙ bits_of_bits (value_bits (Binary operation a b)) (value_bits_small (Binary operation a b) h))

module _ (file : List ℕ) (place : Place) (e : Expression) (h : ℕ) where
  abbrev pub program : Program
  program = program_of file place e

  -- domain 0 at this, with these frames, after this output
  abbrev pub doing : Doing → List Frame → List ℕ → Config
  doing d frames output = record (start program h) { domains = Live d (record { number = 0; frames = frames; foot = Root } ∷ []) ∷ []; output = output }

  -- one step that stays in the one segment
  one_step : (n : ℕ) (d d' : Doing) (k k' : List Frame) (out out' : List ℕ) (c : Config) → step program (doing d k out) 0 ≡ Some (doing d' k' out') → Leads program n (doing d' k' out') c → Leads program (suc n) (doing d k out) c
  one_step n d d' k k' out out' c s l = leads_step program n (doing d k out) (doing d' k' out') c refl s l

  last_part : (operation : Arith) (a b : ℤ) (s : Scope) (k : List Frame) (out : List ℕ) → step program (doing (Return (Num a)) (Parts (Operating (operation_of operation)) [] (Num b ∷ []) s ∷ k) out) 0 ≡ Some (doing (Return (Num (wrap (on_integers operation a b)))) k out)
  last_part Plus a b s k out = refl
  last_part Minus a b s k out = refl
  last_part Times a b s k out = refl

  -- a term leads to its value, and nothing else changes
  pub term_leads : (t : Expression) (s : Scope) (k : List Frame) (out : List ℕ) → (n : ℕ) × Leads program n (doing (Eval (term_of t) s) k out) (doing (Return (Num (value t))) k out)
  term_leads (Number n) s k out = (1, one_step 0 _ _ k k out out _ refl (leads_none program (doing (Return (Num (pos n))) k out)))
  term_leads (Binary operation a b) s k out =
      let shape = Operating (operation_of operation) in
      let right = Parts shape (term_of a ∷ []) [] s ∷ k in
      let left = Parts shape [] (Num (value b) ∷ []) s ∷ k in
      let x = term_leads b s right out in
      let y = term_leads a s left out in
      let over = doing (Return (Num (value (Binary operation a b)))) k out in
      let done : Leads program 1 (doing (Return (Num (value a))) left out) over = one_step 0 _ _ left k out out over (last_part operation (value a) (value b) s k out) (leads_none program over) in
      let second : Leads program (suc (y.0 + 1)) (doing (Return (Num (value b))) right out) over = one_step (y.0 + 1) _ (Eval (term_of a) s) right left out out over refl (leads_on program y.0 1 (doing (Eval (term_of a) s) left out) (doing (Return (Num (value a))) left out) over y.1 done) in
      (suc (x.0 + suc (y.0 + 1)), one_step (x.0 + suc (y.0 + 1)) _ (Eval (term_of b) s) k right out out over refl (leads_on program x.0 (suc (y.0 + 1)) (doing (Eval (term_of b) s) right out) (doing (Return (Num (value b))) right out) over x.1 second))

  -- the item's scope, and the frame that waits for its value
  abbrev pub scope : Scope
  scope = item_scope [] (Prim PrintInt (AndTerm (term_of e) NoTerms))

  abbrev pub waiting : Frame
  waiting = Destructures place (ConstPat UnitConst) [] scope

  -- what is printed
  abbrev pub printed : List ℕ
  printed = decimal (value e)

  -- the text is printed, and the item's pattern is still to be tested
  abbrev pub after_print : Config
  after_print = doing (Return unit) (waiting ∷ []) printed

  -- domain 0 has finished
  abbrev pub after_end : Config
  after_end = record (start program h) { domains = Done (Gave unit) ∷ []; slots = map (freed 0) (start program h).slots; output = printed; end = Exited 0 }

  pub print_leads : (n : ℕ) × Leads program n (start program h) after_print
  print_leads =
      let printing = Parts (Operating PrintInt) [] [] scope ∷ waiting ∷ [] in
      let x = term_leads e scope printing [] in
      let done : Leads program 1 (doing (Return (Num (value e))) printing []) after_print = one_step 0 _ _ printing (waiting ∷ []) [] printed after_print refl (leads_none program after_print) in (
        suc (suc (x.0 + 1)),
        one_step (suc (x.0 + 1)) _ (Eval (Prim PrintInt (AndTerm (term_of e) NoTerms)) scope) _ (waiting ∷ []) [] [] after_print refl
            (one_step (x.0 + 1) _ (Eval (term_of e) scope) (waiting ∷ []) printing [] [] after_print refl
            (leads_on program x.0 1 (doing (Eval (term_of e) scope) printing []) (doing (Return (Num (value e))) printing []) after_print x.1 done)),
      )

  pub end_leads : Leads program 5 after_print after_end
  end_leads =
      leads_step program 4 after_print _ after_end refl refl
      (leads_step program 3 (doing (Testing (Look (ConstPat UnitConst) unit ∷ []) [] [] (ForItem place [] scope)) [] printed) _ after_end refl refl
      (leads_step program 2 (doing (Testing [] [] [] (ForItem place [] scope)) [] printed) _ after_end refl refl
      (leads_step program 1 (doing (Return unit) (Items [] [] ∷ []) printed) _ after_end refl refl
      (leads_step program 0 (doing (Return unit) [] printed) after_end after_end refl refl
      (leads_none program after_end)))))
