-- An expression is read from the left, and there is one way to read it.
use Rattle.std.proofs.Common.{◌≡◌, ℕ, suc, ◌+◌, ◌*◌, ◌<◌, ◌≤◌, List, [], ◌∷◌, ◌++◌, length, Some, None, refl, sym, ap, subst, ◌∙◌, append_assoc, arith}
use Rattle.std.proofs.lemmas.List.{length-append}
use Rattle.effects_top.specs.declared.token.Token.{Token}
use Rattle.effects_top.specs.declared.token.Token.TheVariants as token
use Rattle.effects_top.specs.declared.reader.Arith.{Arith}
use Rattle.effects_top.specs.declared.reader.Postfix.{Postfix}
use Rattle.effects_top.specs.declared.reader.Postfix.TheVariants.{Literal, Apply}
use Rattle.effects_top.specs.Expression.{Expression, Number, Binary, postfix_of}
use Rattle.effects_top.specs.Form.{Level, Atom, Product, Sum, part, operator, Derives, literal, bracket, factor, summand, binary, DerivesFile, literals, IsFormOf}
use Rattle.effects_top.specs.Spelling.{Spells}
use Rattle.effects_top.specs.Reading.{operator_at, Ends, Reads, Unread, ReadsFile}

-- an expression grows to the right by operators and operands
pub data More : Level → ℕ → Expression → List Token → List Token → Expression → Type 0 where
  done : {level : Level} {room : ℕ} {a : Expression} {rest : List Token} → More level room a rest rest a
  more : {level : Level} {room : ℕ} {a b e : Expression} {t : Token} {operation : Arith} {right mid rest : List Token} → operator level t ≡ Some operation
      → Derives (part level) room right mid b → More level room (Binary operation a b) mid rest e → More level room a (t ∷ right) rest e

-- what is read so far, and that the only expression grows out of it
pub record ReadsOn (level : Level) (room : ℕ) (tokens rest : List Token) (before after : List Postfix) : Type 0 where
  pub e : Expression
  pub derives : Derives level room tokens rest e
  pub ends : Ends (part level) rest
  pub postfix : after ≡ before ++ postfix_of e
  pub only : (other : List Token) (f : Expression) → Derives level room tokens other f → Ends level other → More level room e rest other f

ends-part : (level : Level) (ts : List Token) → Ends level ts → Ends (part level) ts
ends-part Atom ts h = h
ends-part Product ts h = tt
ends-part Sum ts h = h.0

ends-own : (level : Level) (ts : List Token) → Ends level ts → operator_at level ts ≡ None
ends-own Atom [] h = refl
ends-own Atom (t ∷ ts) h = refl
ends-own Product ts h = h
ends-own Sum ts h = h.1

ends-both : (level : Level) (ts : List Token) → Ends (part level) ts → operator_at level ts ≡ None → Ends level ts
ends-both Atom ts h e = tt
ends-both Product ts h e = e
ends-both Sum ts h e = (h, e)

-- an operator of a level ends its operand
ends-before : (level : Level) (t : Token) (ts : List Token) (operation : Arith) → operator level t ≡ Some operation → Ends (part level) (t ∷ ts)
ends-before Atom t ts o e = tt
ends-before Product t ts o e = tt
ends-before Sum token.Let ts o e = refl
ends-before Sum token.PrintInt ts o e = refl
ends-before Sum token.Open ts o e = refl
ends-before Sum token.Close ts o e = refl
ends-before Sum token.Equals ts o e = refl
ends-before Sum token.Plus ts o e = refl
ends-before Sum token.Minus ts o e = refl
ends-before Sum token.Times ts o e = cc
ends-before Sum (token.Literal n) ts o e = refl

-- one more operand at the right
more-right : {level : Level} {room : ℕ} {a b c : Expression} {t : Token} {operation : Arith} {ts right rest : List Token} → operator level t ≡ Some operation
    → More level room a ts (t ∷ right) b → Derives (part level) room right rest c → More level room a ts rest (Binary operation b c)
more-right e done d = more e d done
more-right e (more f g m) d = more f g (more-right e m d)

-- the first operand, and what it grows by
pub record Unrolled (level : Level) (room : ℕ) (tokens rest : List Token) (e : Expression) : Type 0 where
  pub a : Expression
  pub mid : List Token
  pub first : Derives (part level) room tokens mid a
  pub on : More level room a mid rest e

unrolled : {level : Level} {room : ℕ} {tokens rest : List Token} {e : Expression} → (level ≡ Atom → ⊥) → Derives level room tokens rest e → Unrolled level room tokens rest e
unrolled n literal = absurd (n refl)
unrolled n (bracket d) = absurd (n refl)
unrolled n (factor d) = record { a = _; mid = _; first = d; on = done }
unrolled n (summand d) = record { a = _; mid = _; first = d; on = done }
unrolled n (binary e d g) = let u = unrolled n d in record { a = u.a; mid = u.mid; first = u.first; on = more-right e u.on g }

-- what goes on after the first operand ends there
on-ends : {level : Level} {room : ℕ} {a e : Expression} {mid rest : List Token} → More level room a mid rest e → Ends level rest → Ends (part level) mid
on-ends {level = level} (done {rest = rest}) h = ends-part level rest h
on-ends {level = level} (more {t = t} {operation = o} {right = right} e d m) h = ends-before level t right o e

moved : {level : Level} {room : ℕ} {a b e : Expression} {mid rest other : List Token} → mid ≡ rest → a ≡ b → More level room a mid other e → More level room b rest other e
moved {level = level} {room = room} {a = a} {b = b} {e = e} {mid = mid} {rest = rest} {other = other} p q m =
    let P : List Token → Type 0 = λ ts. More level room b ts other e in
    let Q : Expression → Type 0 = λ x. More level room x mid other e in
    subst P p (subst Q q m)

-- the first operand is read
pub begun : (level : Level) (room : ℕ) (tokens rest : List Token) (before after : List Postfix) → (level ≡ Atom → ⊥)
    → ((e : Expression) → Derives (part level) room tokens rest e → Derives level room tokens rest e)
    → Reads (part level) room tokens rest before after → ReadsOn level room tokens rest before after
begun level room tokens rest before after n single r = record {
  e = r.e;
  derives = single r.e r.derives;
  ends = r.ends;
  postfix = r.postfix;
  only = λ other f d h. let u = unrolled n d in let o = r.only u.mid u.a u.first (on-ends u.on h) in moved o.0 o.1 u.on;
}

-- nothing is read where no first operand is
pub unbegun : (level : Level) (room : ℕ) (tokens : List Token) → (level ≡ Atom → ⊥) → Unread (part level) room tokens → Unread level room tokens
unbegun level room tokens n r rest e d h = let u = unrolled n d in r u.mid u.a u.first (on-ends u.on h)

-- the operand behind an operator
pub record Next (level : Level) (room : ℕ) (a : Expression) (operation : Arith) (right rest : List Token) (e : Expression) : Type 0 where
  pub b : Expression
  pub mid : List Token
  pub operand : Derives (part level) room right mid b
  pub on : More level room (Binary operation a b) mid rest e

next : {level : Level} {room : ℕ} {a e : Expression} {t : Token} {operation : Arith} {right rest : List Token} → operator level t ≡ Some operation
    → More level room a (t ∷ right) rest e → Ends level rest → Next level room a operation right rest e
next {level = level} {rest = rest} o done h = absurd (let f = ends-own level rest h in cc)
next {level = level} {room = room} {a = a} {e = e} {operation = operation} {rest = rest} o (more {b = b} {operation = operation'} {mid = mid} o' d m) h =
    let same : operation' ≡ operation = cc in
    let P : Arith → Type 0 = λ x. More level room (Binary x a b) mid rest e in
    record { b = b; mid = mid; operand = d; on = subst P same m }

-- an operator and the operand behind it are read
pub gone_on : (level : Level) (room : ℕ) (tokens right rest : List Token) (t : Token) (operation : Arith) (before mid mid' after : List Postfix)
    → operator level t ≡ Some operation → ReadsOn level room tokens (t ∷ right) before mid → Reads (part level) room right rest mid mid'
    → after ≡ mid' ++ Apply operation ∷ [] → ReadsOn level room tokens rest before after
gone_on level room tokens right rest t operation before mid mid' after o on r pushed = record {
  e = Binary operation on.e r.e;
  derives = binary o on.derives r.derives;
  ends = r.ends;
  postfix = pushed ∙ regroup before (postfix_of on.e) (postfix_of r.e) (Apply operation ∷ []) mid mid' on.postfix r.postfix;
  only = λ other f d h.
      let n = next o (on.only other f d h) h in
      let s = r.only n.mid n.b n.operand (on-ends n.on h) in
      moved s.0 (ap (λ (x : Expression). Binary operation on.e x) s.1) n.on;
}
  where
    regroup : (p a b c m m' : List Postfix) → m ≡ p ++ a → m' ≡ m ++ b → m' ++ c ≡ p ++ (a ++ (b ++ c))
    regroup p a b c m m' e f = ap (λ (l : List Postfix). l ++ c) (f ∙ ap (λ (l : List Postfix). l ++ b) e) ∙ simp append_assoc

-- nothing is read where no operand is behind an operator
pub stuck : (level : Level) (room : ℕ) (tokens right : List Token) (t : Token) (operation : Arith) (before mid : List Postfix)
    → operator level t ≡ Some operation → ReadsOn level room tokens (t ∷ right) before mid → Unread (part level) room right → Unread level room tokens
stuck level room tokens right t operation before mid o on r rest e d h =
    let n = next o (on.only rest e d h) h in r n.mid n.b n.operand (on-ends n.on h)

-- no operator is behind what was read
pub come_to_end : (level : Level) (room : ℕ) (tokens rest : List Token) (before after : List Postfix)
    → operator_at level rest ≡ None → ReadsOn level room tokens rest before after → Reads level room tokens rest before after
come_to_end level room tokens rest before after o on = record {
  e = on.e;
  derives = on.derives;
  ends = ends-both level rest on.ends o;
  postfix = on.postfix;
  only = λ other f d h. last o (on.only other f d h);
}
  where
    last : {level : Level} {room : ℕ} {a e : Expression} {rest other : List Token} → operator_at level rest ≡ None → More level room a rest other e → (other ≡ rest) × (e ≡ a)
    last o done = (refl, refl)
    last o (more e d m) = absurd (let p = e in cc)

-- a literal
pub literal-read : (room n : ℕ) (tokens rest : List Token) (before after : List Postfix) → tokens ≡ token.Literal n ∷ rest → after ≡ before ++ Literal n ∷ [] → Reads Atom room tokens rest before after
literal-read room n tokens rest before after is pushed =
    let P : List Token → Type 0 = λ ts. Reads Atom room ts rest before after in
    subst P (sym is) (record { e = Number n; derives = literal; ends = tt; postfix = pushed; only = λ other f d h. one d refl })
  where
    one : {room n : ℕ} {tokens rest other : List Token} {f : Expression} → Derives Atom room tokens other f → tokens ≡ token.Literal n ∷ rest → (other ≡ rest) × (f ≡ Number n)
    one literal e = (cc, cc)
    one (bracket d) e = absurd (cc)
    one (binary o d g) e = absurd (let p = o in cc)

-- what stands in brackets
pub record Opened (room : ℕ) (inner rest : List Token) (e : Expression) : Type 0 where
  pub within : ℕ
  pub deeper : room ≡ suc within
  pub derives : Derives Sum within inner (token.Close ∷ rest) e

opened : {room : ℕ} {tokens inner rest : List Token} {e : Expression} → Derives Atom room tokens rest e → tokens ≡ token.Open ∷ inner → Opened room inner rest e
opened literal is = absurd (cc)
opened {rest = rest} {e = e} (bracket {room = room} d) is = let P : List Token → Type 0 = λ ts. Derives Sum room ts (token.Close ∷ rest) e in record { within = room; deeper = refl; derives = subst P (cc) d }
opened (binary o d g) is = absurd (let p = o in cc)

opened-at : {room within : ℕ} {tokens inner rest : List Token} {e : Expression} → room ≡ suc within → tokens ≡ token.Open ∷ inner → Derives Atom room tokens rest e → Derives Sum within inner (token.Close ∷ rest) e
opened-at {inner = inner} {rest = rest} {e = e} is t d =
    let o = opened d t in
    let P : ℕ → Type 0 = λ n. Derives Sum n inner (token.Close ∷ rest) e in
    subst P (omega (arith, o.deeper)) o.derives

pub bracket-read : (room within : ℕ) (tokens inner mid rest : List Token) (before after : List Postfix) → room ≡ suc within → tokens ≡ token.Open ∷ inner → mid ≡ token.Close ∷ rest
    → Reads Sum within inner mid before after → Reads Atom room tokens rest before after
bracket-read room within tokens inner mid rest before after is t m r = record {
  e = r.e;
  derives =
      let P : List Token → Type 0 = λ ts. Derives Sum within inner ts r.e in
      let Q : List Token → Type 0 = λ ts. Derives Atom (suc within) ts rest r.e in
      let R : ℕ → Type 0 = λ n. Derives Atom n tokens rest r.e in
      subst R (sym is) (subst Q (sym t) (bracket (subst P m r.derives)));
  ends = tt;
  postfix = r.postfix;
  only = λ other f d h. let s = r.only (token.Close ∷ other) f (opened-at is t d) (refl, refl) in (tail_is (s.0 ∙ m), s.1);
}
  where
    tail_is : {a b : List Token} → token.Close ∷ a ≡ token.Close ∷ b → a ≡ b
    tail_is e = cc

pub bracket-unread : (room within : ℕ) (tokens inner : List Token) → room ≡ suc within → tokens ≡ token.Open ∷ inner → Unread Sum within inner → Unread Atom room tokens
bracket-unread room within tokens inner is t r rest e d h = r (token.Close ∷ rest) e (opened-at is t d) (refl, refl)

pub bracket-unclosed : (room within : ℕ) (tokens inner mid : List Token) (before after : List Postfix) → room ≡ suc within → tokens ≡ token.Open ∷ inner
    → Reads Sum within inner mid before after → ((rest : List Token) → mid ≡ token.Close ∷ rest → ⊥) → Unread Atom room tokens
bracket-unclosed room within tokens inner mid before after is t r n rest e d h = let s = r.only (token.Close ∷ rest) e (opened-at is t d) (refl, refl) in n rest (sym s.0)

pub bracket-full : (room : ℕ) (tokens inner : List Token) → room ≡ 0 → tokens ≡ token.Open ∷ inner → Unread Atom room tokens
bracket-full room tokens inner is t rest e d h = let o = opened d t in absurd (omega (arith, o.deeper))

-- another token begins no expression, nor does the end
pub other-unread : (room : ℕ) (tokens rest : List Token) (t : Token) → tokens ≡ t ∷ rest → (t ≡ token.Open → ⊥) → ((n : ℕ) → t ≡ token.Literal n → ⊥) → Unread Atom room tokens
other-unread room tokens rest t is n m other e d h = none d is n m
  where
    none : {room : ℕ} {tokens rest other : List Token} {t : Token} {e : Expression} → Derives Atom room tokens other e → tokens ≡ t ∷ rest → (t ≡ token.Open → ⊥) → ((n : ℕ) → t ≡ token.Literal n → ⊥) → ⊥
    none (literal {n = k}) is n m = m k (cc)
    none (bracket d) is n m = n (cc)
    none (binary o d g) is n m = let p = o in cc

pub end-unread : (room : ℕ) (tokens : List Token) → tokens ≡ [] → Unread Atom room tokens
end-unread room tokens is other e d h = none d is
  where
    none : {room : ℕ} {tokens other : List Token} {e : Expression} → Derives Atom room tokens other e → tokens ≡ [] → ⊥
    none literal is = cc
    none (bracket d) is = cc
    none (binary o d g) is = let p = o in cc

-- an operation stands behind each literal but one
postfix-length : (e : Expression) → length (postfix_of e) + 1 ≡ 2 * literals e
postfix-length (Number n) = refl
postfix-length (Binary operation a b) =
    omega (arith, postfix-length a, postfix-length b, length-append (postfix_of a) (postfix_of b ++ Apply operation ∷ []), length-append (postfix_of b) (Apply operation ∷ []))

-- what was read is the one expression of the bytes
pub form-is : (bytes : List ℕ) (tokens : List Token) (after : List Postfix) → Spells bytes tokens → ReadsFile tokens [] after → length after < 2000
    → (e : Expression) × IsFormOf bytes e × (after ≡ postfix_of e)
form-is bytes tokens after s r few = (r.e, record { tokens = tokens; spelled = s; derived = r.derives; few = omega (arith, postfix-length r.e, ap length r.postfix) }, r.postfix)

-- too many literals
pub form-long : (bytes : List ℕ) (tokens : List Token) (after : List Postfix) → ((other : List Token) → Spells bytes other → other ≡ tokens) → ReadsFile tokens [] after → 2000 ≤ length after
    → (e : Expression) → IsFormOf bytes e → ⊥
form-long bytes tokens after only r many e f =
    let d : DerivesFile tokens e = (let P : List Token → Type 0 = λ ts. DerivesFile ts e in subst P (only f.tokens f.spelled) f.derived) in
    omega (arith, f.few, postfix-length r.e, ap length r.postfix, ap literals (r.only e d))

-- other tokens than those of the form
pub form-none : (bytes : List ℕ) (tokens : List Token) → ((other : List Token) → Spells bytes other → other ≡ tokens) → ((e : Expression) → DerivesFile tokens e → ⊥)
    → (e : Expression) → IsFormOf bytes e → ⊥
form-none bytes tokens only n e f = let P : List Token → Type 0 = λ ts. DerivesFile ts e in n e (subst P (only f.tokens f.spelled) f.derived)
