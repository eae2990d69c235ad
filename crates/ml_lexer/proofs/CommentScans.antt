use Rattle.std.proofs.Common.{◌≡◌, ℕ, zero, suc, ◌+◌, ◌-◌, ◌≤◌, Bool, true, false, ◌&&◌, ◌||◌, List, [], ◌∷◌, ◌++◌, length, take, drop, Option, Some, None, refl, sym, ◌∙◌, ap, subst, arith}
use Rattle.std.specs.Prelude.{◌==◌, if◌then◌else◌, option_and_then}
use Rattle.std.proofs.lemmas.Bool.{eqb-true}
use Rattle.std.proofs.lemmas.List.{length-append, take-append-drop}
use Rattle.ml_lexer.specs.declared.bytes.Class.TheVariants.{Blank, Letter, Digit, Quote, Apostrophe, Mark}
use Rattle.ml_lexer.specs.Bytes.{class, is_blank, is_lower, is_upper, is_digit}
use Rattle.ml_lexer.specs.Forms.{Parts, is_character}
use Rattle.ml_lexer.specs.Comments.{opens_comment, closes_comment, BeginsNoCharacter, Inside, outside, deeper, ends, quoted, literal, other}
use Rattle.ml_lexer.specs.Scan.{after_one, or_one, scan_character, scan_parts, inside}
use Rattle.ml_lexer.proofs.Scans.{On, Ended, parts_found, parts_scanned, IsLiteral, character_found, character_scanned, none_scanned, none_stands}

-- the bytes of a text are passed one by one
pub passed : List ℕ → Option ℕ → Option ℕ
passed [] o = o
passed (b ∷ u) o = after_one (passed u o)

pub inside_passed : (d : ℕ) (u s : List ℕ) → inside d (length u) (u ++ s) ≡ passed u (inside d zero s)
unfolding passed
inside_passed d [] s = refl
inside_passed zero (b ∷ u) s = ap after_one (inside_passed zero u s)
inside_passed (suc d) (b ∷ u) s = ap after_one (inside_passed (suc d) u s)

pub inside_next : (d k b : ℕ) (bs : List ℕ) → inside d (suc k) (b ∷ bs) ≡ after_one (inside d k bs)
inside_next zero k b bs = refl
inside_next (suc d) k b bs = refl

passed_some : (u : List ℕ) (n : ℕ) → passed u (Some n) ≡ Some (length u + n)
unfolding passed
passed_some [] n = ap Some (omega arith)
passed_some (b ∷ u) n = ap after_one (passed_some u n) ∙ ap Some (omega arith)

no_open : (a : ℕ) (bs : List ℕ) → (a == 40) ≡ false → opens_comment (a ∷ bs) ≡ false
no_open a [] h = refl
no_open a (b ∷ bs) h = rw h refl

no_close : (a : ℕ) (bs : List ℕ) → (a == 42) ≡ false → closes_comment (a ∷ bs) ≡ false
no_close a [] h = refl
no_close a (b ∷ bs) h = rw h refl

closes_first : (a b : ℕ) → ((a == 42) && (b == 41)) ≡ true → (a == 42) ≡ true
closes_first a b h = by_test (a == 42) refl h
  where
    by_test : (v : Bool) → (a == 42) ≡ v → (v && (b == 41)) ≡ true → (a == 42) ≡ true
    by_test true e k = e
    by_test false e k = absurd (cc)

-- a byte that begins a string is a `"`
quote_byte : (b : ℕ) → class b ≡ Quote → (b == 34) ≡ true
quote_byte b h = first (is_blank b) h
  where
    fifth : (v : Bool) → (if v then Apostrophe else Mark) ≡ Quote → (b == 34) ≡ true
    fifth true k = absurd (cc)
    fifth false k = absurd (cc)

    fourth : (v : Bool) → (b == 34) ≡ v → (if v then Quote else (if b == 39 then Apostrophe else Mark)) ≡ Quote → (b == 34) ≡ true
    fourth true e k = e
    fourth false e k = fifth (b == 39) k

    third : (v : Bool) → (if v then Digit else (if b == 34 then Quote else (if b == 39 then Apostrophe else Mark))) ≡ Quote → (b == 34) ≡ true
    third true k = absurd (cc)
    third false k = fourth (b == 34) refl k

    second : (v : Bool) → (if v then Letter else (if is_digit b then Digit else (if b == 34 then Quote else (if b == 39 then Apostrophe else Mark)))) ≡ Quote → (b == 34) ≡ true
    second true k = absurd (cc)
    second false k = third (is_digit b) k

    first : (v : Bool) → (if v then Blank else (if is_lower b || is_upper b || (b == 95) then Letter else (if is_digit b then Digit else (if b == 34 then Quote else (if b == 39 then Apostrophe else Mark))))) ≡ Quote → (b == 34) ≡ true
    first true k = absurd (cc)
    first false k = second (is_lower b || is_upper b || (b == 95)) k

-- a comment is scanned to its end
pub record Closes (d : ℕ) (bs rest : List ℕ) : Type 0 where
  pub length_is : ℕ
  pub is : inside d zero bs ≡ Some length_is
  pub sum : length_is + length rest ≡ length bs

closes_quoted : (d : ℕ) (q : ℕ) (ps after rest : List ℕ) → class q ≡ Quote → Parts ps → Closes (suc d) after rest → Closes (suc d) (q ∷ ps ++ after) rest
closes_quoted d q ps after rest h p r =
    let is_quote : (q == 34) ≡ true = quote_byte q h in
    let opens : opens_comment (q ∷ ps ++ after) ≡ false = no_open q (ps ++ after) (rw (eqb-true q 34 is_quote) refl) in
    let closes : closes_comment (q ∷ ps ++ after) ≡ false = no_close q (ps ++ after) (rw (eqb-true q 34 is_quote) refl) in
    let behind : inside (suc d) (length ps) (ps ++ after) ≡ Some (length ps + r.length_is) = inside_passed (suc d) ps after ∙ ap (passed ps) r.is ∙ passed_some ps r.length_is in
    record {
      length_is = suc (length ps + r.length_is);
      is = rw (opens, closes, is_quote, parts_scanned ps after p, behind) refl;
      sum = omega (arith, r.sum, length-append ps after);
    }

literal_byte : (b : ℕ) (u : List ℕ) → is_character (b ∷ u) ≡ true → (b == 39) ≡ true
literal_byte b u h = by_test (b == 39) refl
  where
    none : (b == 39) ≡ false → (u : List ℕ) → is_character (b ∷ u) ≡ false
    none e [] = refl
    none e (c ∷ []) = refl
    none e (c ∷ d ∷ []) = rw e refl
    none e (c ∷ d ∷ f ∷ []) = rw e refl
    none e (c ∷ d ∷ f ∷ g ∷ []) = refl
    none e (c ∷ d ∷ f ∷ g ∷ i ∷ []) = rw e refl
    none e (c ∷ d ∷ f ∷ g ∷ i ∷ j ∷ v) = refl

    by_test : (v : Bool) → (b == 39) ≡ v → v ≡ true
    by_test true e = refl
    by_test false e = absurd (let n : is_character (b ∷ u) ≡ false = none e u in cc)

closes_literal : (d : ℕ) (q : ℕ) (ps after rest : List ℕ) → is_character (q ∷ ps) ≡ true → Closes (suc d) after rest → Closes (suc d) (q ∷ ps ++ after) rest
closes_literal d q ps after rest h r =
    let is_apostrophe : (q == 39) ≡ true = literal_byte q ps h in
    let opens : opens_comment (q ∷ ps ++ after) ≡ false = no_open q (ps ++ after) (rw (eqb-true q 39 is_apostrophe) refl) in
    let closes : closes_comment (q ∷ ps ++ after) ≡ false = no_close q (ps ++ after) (rw (eqb-true q 39 is_apostrophe) refl) in
    let no_quote : (q == 34) ≡ false = rw (eqb-true q 39 is_apostrophe) refl in
    let found : scan_character (q ∷ ps ++ after) ≡ Some (suc (length ps)) = character_scanned (q ∷ ps) after h in
    let behind : inside (suc d) (length ps) (ps ++ after) ≡ Some (length ps + r.length_is) = inside_passed (suc d) ps after ∙ ap (passed ps) r.is ∙ passed_some ps r.length_is in
    let step : inside (suc d) zero (q ∷ ps ++ after) ≡ after_one (inside (suc d) (or_one (scan_character (q ∷ ps ++ after)) - 1) (ps ++ after)) = rw (opens, closes, no_quote) refl in
    let one : suc (length ps) - 1 ≡ length ps = omega arith in
    record {
      length_is = suc (length ps + r.length_is);
      is = step ∙ ap (λ o. after_one (inside (suc d) (or_one o - 1) (ps ++ after))) found ∙ ap (λ k. after_one (inside (suc d) k (ps ++ after))) one ∙ ap after_one behind;
      sum = omega (arith, r.sum, length-append ps after);
    }

closes_other : (d b : ℕ) (bs rest : List ℕ) → opens_comment (b ∷ bs) ≡ false → closes_comment (b ∷ bs) ≡ false → (b == 34) ≡ false → BeginsNoCharacter (b ∷ bs) → Closes (suc d) bs rest → Closes (suc d) (b ∷ bs) rest
closes_other d b bs rest h k q n i =
    let none : scan_character (b ∷ bs) ≡ None = none_stands (b ∷ bs) n in
    let step : inside (suc d) zero (b ∷ bs) ≡ after_one (inside (suc d) (or_one (scan_character (b ∷ bs)) - 1) bs) = rw (h, k, q) refl in
    record { length_is = suc i.length_is; is = step ∙ ap (λ o. after_one (inside (suc d) (or_one o - 1) bs)) none ∙ ap after_one i.is; sum = omega (arith, i.sum) }

pub closes_inside : {d : ℕ} {bs rest : List ℕ} → Inside d bs rest → Closes d bs rest
closes_inside {rest = rest} outside = record { length_is = 0; is = refl; sum = omega arith }
closes_inside (deeper h r) = let i = closes_inside r in record { length_is = suc (suc i.length_is); is = rw (h, i.is) refl; sum = omega (arith, i.sum) }
closes_inside (ends {d = d} {a = a} {b = b} {bs = bs} h r) =
    let i = closes_inside r in
    let opens : opens_comment (a ∷ b ∷ bs) ≡ false = no_open a (b ∷ bs) (rw (eqb-true a 42 (closes_first a b h)) refl) in
    record { length_is = suc (suc i.length_is); is = rw (opens, h, inside_next d 0 b bs, i.is) refl; sum = omega (arith, i.sum) }
closes_inside (quoted [] after h e r) = absurd h
closes_inside {d = suc d} {rest = rest} (quoted (q ∷ ps) after h e r) = subst (λ bs. Closes (suc d) bs rest) (sym e) (closes_quoted d q ps after rest h.0 h.1 (closes_inside r))
closes_inside (literal [] after h e r) = absurd h
closes_inside {d = suc d} {rest = rest} (literal (q ∷ ps) after h e r) = subst (λ bs. Closes (suc d) bs rest) (sym e) (closes_literal d q ps after rest h (closes_inside r))
closes_inside {d = suc d} {rest = rest} (other {b = b} {bs = bs} h k q n r) = closes_other d b bs rest h k q n (closes_inside r)

-- what is scanned as a comment is one
pub record Skipped (d k : ℕ) (bs : List ℕ) (n : ℕ) : Type 0 where
  pub inside_is : Inside d (drop k bs) (drop n bs)
  pub within : n ≤ length bs

skipped_next : (d k b : ℕ) (bs : List ℕ) (o : Option ℕ) → On o (Skipped d k bs) → On (after_one o) (Skipped d (suc k) (b ∷ bs))
skipped_next d k b bs None h = tt
skipped_next d k b bs (Some n) h = record { inside_is = h.inside_is; within = omega (arith, h.within) }

if_holds : (P : ℕ → Type 0) (v : Bool) (x y : Option ℕ) → (v ≡ true → On x P) → (v ≡ false → On y P) → On (if v then x else y) P
if_holds P true x y h k = h refl
if_holds P false x y h k = k refl

skipped_deeper : (d b : ℕ) (bs : List ℕ) → opens_comment (b ∷ bs) ≡ true → (o : Option ℕ) → On o (Skipped (suc (suc d)) 1 bs) → On (after_one o) (Skipped (suc d) zero (b ∷ bs))
skipped_deeper d b bs h None k = tt
skipped_deeper d b [] h (Some n) k = absurd (cc)
skipped_deeper d b (c ∷ bs) h (Some n) k = record { inside_is = deeper h k.inside_is; within = omega (arith, k.within) }

skipped_ends : (d b : ℕ) (bs : List ℕ) → closes_comment (b ∷ bs) ≡ true → (o : Option ℕ) → On o (Skipped d 1 bs) → On (after_one o) (Skipped (suc d) zero (b ∷ bs))
skipped_ends d b bs h None k = tt
skipped_ends d b [] h (Some n) k = absurd (cc)
skipped_ends d b (c ∷ bs) h (Some n) k = record { inside_is = ends h k.inside_is; within = omega (arith, k.within) }

skipped_other : (d b : ℕ) (bs : List ℕ) → opens_comment (b ∷ bs) ≡ false → closes_comment (b ∷ bs) ≡ false → (b == 34) ≡ false → BeginsNoCharacter (b ∷ bs) → (o : Option ℕ) → On o (Skipped (suc d) zero bs) → On (after_one o) (Skipped (suc d) zero (b ∷ bs))
skipped_other d b bs h i j n None k = tt
skipped_other d b bs h i j n (Some m) k = record { inside_is = other h i j n k.inside_is; within = omega (arith, k.within) }

skipped_literal : (d b : ℕ) (bs : List ℕ) (m : ℕ) → IsLiteral (b ∷ bs) (suc m) → (o : Option ℕ) → On o (Skipped (suc d) m bs) → On (after_one o) (Skipped (suc d) zero (b ∷ bs))
skipped_literal d b bs m e None k = tt
skipped_literal d b bs m e (Some n) k = record {
  inside_is = literal (b ∷ take m bs) (drop m bs) e.character (ap (λ cs. b ∷ cs) (sym (take-append-drop m bs))) k.inside_is;
  within = omega (arith, k.within);
}

skipped_character : (d b : ℕ) (bs : List ℕ) → opens_comment (b ∷ bs) ≡ false → closes_comment (b ∷ bs) ≡ false → (b == 34) ≡ false → ((m : ℕ) → On (inside (suc d) m bs) (Skipped (suc d) m bs)) → (o : Option ℕ) → scan_character (b ∷ bs) ≡ o → On o (IsLiteral (b ∷ bs)) → On (after_one (inside (suc d) (or_one o - 1) bs)) (Skipped (suc d) zero (b ∷ bs))
skipped_character d b bs h i j again None e k = skipped_other d b bs h i j (none_scanned (b ∷ bs) e) (inside (suc d) zero bs) (again zero)
skipped_character d b bs h i j again (Some zero) e k = absurd (let n : is_character (take zero (b ∷ bs)) ≡ true = k.character in cc)
skipped_character d b bs h i j again (Some (suc m)) e k = subst (λ n. On (after_one (inside (suc d) n bs)) (Skipped (suc d) zero (b ∷ bs))) (less_one m) (skipped_literal d b bs m k (inside (suc d) m bs) (again m))
  where
    less_one : (m : ℕ) → m ≡ suc m - 1
    less_one m = omega arith

skipped_quoted : (d b : ℕ) (bs : List ℕ) → (b == 34) ≡ true → (m : ℕ) → Ended bs m → (o : Option ℕ) → On o (Skipped (suc d) m bs) → On (after_one o) (Skipped (suc d) zero (b ∷ bs))
skipped_quoted d b bs h m e None k = tt
skipped_quoted d b bs h m e (Some n) k = record {
  inside_is = quoted (b ∷ take m bs) (drop m bs) (rw (eqb-true b 34 h) refl, e.parts) (ap (λ cs. b ∷ cs) (sym (take-append-drop m bs))) k.inside_is;
  within = omega (arith, k.within);
}

skipped_parts : (d b : ℕ) (bs : List ℕ) → (b == 34) ≡ true → ((m : ℕ) → On (inside (suc d) m bs) (Skipped (suc d) m bs)) → (o : Option ℕ) → On o (Ended bs) → On (option_and_then (λ m. after_one (inside (suc d) m bs)) o) (Skipped (suc d) zero (b ∷ bs))
skipped_parts d b bs h again None e = tt
skipped_parts d b bs h again (Some m) e = skipped_quoted d b bs h m e (inside (suc d) m bs) (again m)

pub skipped : (d k : ℕ) (bs : List ℕ) → On (inside d k bs) (Skipped d k bs)
skipped zero zero [] = record { inside_is = outside; within = omega arith }
skipped zero zero (b ∷ bs) = record { inside_is = outside; within = omega arith }
skipped zero (suc k) [] = tt
skipped (suc d) zero [] = tt
skipped (suc d) (suc k) [] = tt
skipped zero (suc k) (b ∷ bs) = skipped_next zero k b bs (inside zero k bs) (skipped zero k bs)
skipped (suc d) (suc k) (b ∷ bs) = skipped_next (suc d) k b bs (inside (suc d) k bs) (skipped (suc d) k bs)
skipped (suc d) zero (b ∷ bs) =
    let P = Skipped (suc d) zero (b ∷ bs) in
    let plainly = after_one (inside (suc d) (or_one (scan_character (b ∷ bs)) - 1) bs) in
    let quoting = option_and_then (λ m. after_one (inside (suc d) m bs)) (scan_parts bs) in
    let closing = after_one (inside d 1 bs) in
    let again : (e k : ℕ) → On (inside e k bs) (Skipped e k bs) = λ e k. skipped e k bs in
    if_holds P (opens_comment (b ∷ bs)) (after_one (inside (suc (suc d)) 1 bs)) (if closes_comment (b ∷ bs) then closing else (if b == 34 then quoting else plainly)) (λ h. skipped_deeper d b bs h _ (again (suc (suc d)) 1))
    (λ h. if_holds P (closes_comment (b ∷ bs)) closing (if b == 34 then quoting else plainly) (λ i. skipped_ends d b bs i _ (again d 1))
    (λ i. if_holds P (b == 34) quoting plainly (λ j. skipped_parts d b bs j (again (suc d)) (scan_parts bs) (parts_found bs)) (λ j. skipped_character d b bs h i j (again (suc d)) (scan_character (b ∷ bs)) refl (character_found (b ∷ bs)))))
