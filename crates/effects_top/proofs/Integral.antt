-- Each literal of a text of the form is an integer.
use Rattle.std.proofs.Common.{◌≤◌, ℕ, ◌<◌, ◌^◌, List, [], ◌∷◌, subst, arith}
use Rattle.effects_top.specs.declared.token.Token.{Token}
use Rattle.effects_top.specs.declared.token.Token.TheVariants.{Let, PrintInt, Open, Close, Equals, Plus, Minus, Times, Literal}
use Rattle.effects_top.specs.Expression.{Expression, AreIntegers}
use Rattle.effects_top.specs.Spelling.{IsSpelling, Spells, ended, blank, spelled}
use Rattle.effects_top.specs.Form.{Level, Derives, literal, bracket, factor, summand, binary, IsFormOf}

-- a literal token is an integer
abbrev IsIntegral : Token → Type 0
IsIntegral (Literal n) = n < 2 ^ 62
IsIntegral _ = Unit {0}

abbrev AreIntegral : List Token → Type 0
AreIntegral [] = Unit {0}
AreIntegral (t ∷ ts) = IsIntegral t × AreIntegral ts

spelling_integral : (t : Token) (text : List ℕ) → IsSpelling text t → IsIntegral t
spelling_integral (Literal n) [] s = absurd s
spelling_integral (Literal n) (d ∷ ds) s = let h : n ≤ 4611686018427387903 = s.2 in omega arith
spelling_integral Let text s = tt
spelling_integral PrintInt text s = tt
spelling_integral Open text s = tt
spelling_integral Close text s = tt
spelling_integral Equals text s = tt
spelling_integral Plus text s = tt
spelling_integral Minus text s = tt
spelling_integral Times text s = tt

spells_integral : {bytes : List ℕ} {ts : List Token} → Spells bytes ts → AreIntegral ts
spells_integral ended = tt
spells_integral (blank e s) = spells_integral s
spells_integral (spelled {t = t} text e is apart s) = (spelling_integral t text is, spells_integral s)

derives_integral : {level : Level} {room : ℕ} {tokens rest : List Token} {e : Expression} → Derives level room tokens rest e → AreIntegral tokens → AreIntegers e × AreIntegral rest
derives_integral literal all = (all.0, all.1)
derives_integral (bracket d) all = let inner = derives_integral d all.1 in (inner.0, inner.1.1)
derives_integral (factor d) all = derives_integral d all
derives_integral (summand d) all = derives_integral d all
derives_integral (binary o a b) all =
    let left = derives_integral a all in
    let right = derives_integral b left.1.1 in
    ((left.0, right.0), right.1)

pub form_integral : (bytes : List ℕ) (e : Expression) → IsFormOf bytes e → AreIntegers e
form_integral bytes e f =
    let all : AreIntegral (Let ∷ Open ∷ Close ∷ Equals ∷ PrintInt ∷ f.derived.0) = subst AreIntegral f.derived.1 (spells_integral f.spelled) in
    (derives_integral f.derived.2 all.1.1.1.1.1).0
