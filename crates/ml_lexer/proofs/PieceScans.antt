use Rattle.std.proofs.Common.{◌≡◌, ℕ, zero, suc, ◌-◌, Bool, true, false, ◌&&◌, List, [], ◌∷◌, ◌++◌, length, take, drop, Option, Some, None, refl, sym, ◌∙◌, ap, subst, arith, append_assoc}
use Rattle.std.specs.Prelude.{◌==◌, if◌then◌else◌, option_map, option_and_then}
use Rattle.std.proofs.lemmas.Bool.{eqb-true}
use Rattle.std.proofs.lemmas.List.{length-append, take-append-drop}
use Rattle.std.proofs.Math.Seq.{take-append_seam, drop-append_seam}
use Rattle.ml_lexer.specs.declared.form.Form.{Form}
use Rattle.ml_lexer.specs.declared.form.Form.TheVariants as forms
use Rattle.ml_lexer.specs.declared.token.TokenKind.{TokenKind}
use Rattle.ml_lexer.specs.Bytes.{is_blank}
use Rattle.ml_lexer.specs.Forms.{IsFront}
use Rattle.ml_lexer.specs.Comments.{opens_comment}
use Rattle.ml_lexer.specs.Lexes.{Piece, blank, comment, lexeme, kind_of, bytes_of, joined, IsLexeme, IsPiece, AreCut, BeginsNoPiece}
use Rattle.ml_lexer.specs.Scan.{scan, inside, of_kind, first_piece, cut_at, cut_from}
use Rattle.ml_lexer.proofs.Scans.{On, scan_longest, longest_scanned}
use Rattle.ml_lexer.proofs.CommentScans.{closes_inside, Skipped, skipped}

-- the piece at the front of a text
pub record IsFirst (p : Piece) (bs : List ℕ) : Type 0 where
  pub rest : List ℕ
  pub whole : bs ≡ bytes_of p ++ rest
  pub piece : IsPiece p rest

if_piece : (P : Piece → Type 0) (v : Bool) (x y : Option Piece) → (v ≡ true → On x P) → (v ≡ false → On y P) → On (if v then x else y) P
if_piece P true x y h k = h refl
if_piece P false x y h k = k refl

first_comment : (b : ℕ) (bs : List ℕ) → opens_comment (b ∷ bs) ≡ true → (o : Option ℕ) → On o (Skipped 1 1 bs) → On (option_map (λ n. comment (take (suc n) (b ∷ bs))) o) (λ p. IsFirst p (b ∷ bs))
first_comment b bs h None k = tt
first_comment b [] h (Some n) k = absurd (cc)
first_comment b (c ∷ bs) h (Some zero) k = absurd (let i = closes_inside k.inside_is in omega (arith, i.sum))
first_comment b (c ∷ bs) h (Some (suc n)) k = record {
  rest = drop n bs;
  whole = ap (λ cs. b ∷ c ∷ cs) (sym (take-append-drop n bs));
  piece = (h, rw (take-append-drop n bs) k.inside_is);
}

-- a lexeme of a form, and its kind
abbrev formed : List ℕ → Form × ℕ → Option Piece
formed bs p = let t = take p.1 bs in of_kind (kind_of p.0 t) t

first_kind : (bs : List ℕ) (f : Form) (n : ℕ) → opens_comment bs ≡ false → scan bs ≡ Some (f, n) → (o : Option TokenKind) → kind_of f (take n bs) ≡ o → On (of_kind o (take n bs)) (λ p. IsFirst p bs)
first_kind bs f n h e None k = tt
first_kind bs f n h e (Some kind) k = record {
  rest = drop n bs;
  whole = sym (take-append-drop n bs);
  piece = record { form = f; longest = scan_longest bs f n e; kind = k; outside = rw (take-append-drop n bs) h };
}

first_lexeme : (bs : List ℕ) → opens_comment bs ≡ false → (o : Option (Form × ℕ)) → scan bs ≡ o → On (option_and_then (formed bs) o) (λ p. IsFirst p bs)
first_lexeme bs h None e = tt
first_lexeme bs h (Some p) e = first_kind bs p.0 p.1 h e (kind_of p.0 (take p.1 bs)) refl

pub first_is : (bs : List ℕ) → On (first_piece bs) (λ p. IsFirst p bs)
first_is [] = tt
first_is (b ∷ bs) =
    let P = λ (p : Piece). IsFirst p (b ∷ bs) in
    let commented = option_map (λ n. comment (take (suc n) (b ∷ bs))) (inside 1 1 bs) in
    let lexed = option_and_then (formed (b ∷ bs)) (scan (b ∷ bs)) in
    if_piece P (is_blank b) (Some (blank b)) (if opens_comment (b ∷ bs) then commented else lexed) (λ h. record { rest = bs; whole = refl; piece = h })
    (λ h. if_piece P (opens_comment (b ∷ bs)) commented lexed (λ k. first_comment b bs k (inside 1 1 bs) (skipped 1 1 bs)) (λ k. first_lexeme (b ∷ bs) k (scan (b ∷ bs)) refl))

opens_first : (a b : ℕ) → ((a == 40) && (b == 42)) ≡ true → (a == 40) ≡ true
opens_first a b h = by_test (a == 40) refl h
  where
    by_test : (v : Bool) → (a == 40) ≡ v → (v && (b == 42)) ≡ true → (a == 40) ≡ true
    by_test true e k = e
    by_test false e k = absurd (cc)

not_blank : (b : ℕ) (bs : List ℕ) (p : Form × ℕ) → scan (b ∷ bs) ≡ Some p → is_blank b ≡ false
not_blank b bs p h = by_test (is_blank b) refl
  where
    by_test : (v : Bool) → is_blank b ≡ v → v ≡ false
    by_test false e = refl
    by_test true e = absurd (let none : scan (b ∷ bs) ≡ None = rw e refl in cc)

first_formed : (b : ℕ) (bs : List ℕ) → is_blank b ≡ false → opens_comment (b ∷ bs) ≡ false → first_piece (b ∷ bs) ≡ option_and_then (formed (b ∷ bs)) (scan (b ∷ bs))
first_formed b bs h k = rw (h, k) refl

no_form : (f : Form) (rest : List ℕ) → IsFront f [] rest → ⊥
no_form forms.Word rest h = h
no_form forms.Number rest h = h
no_form forms.Character rest h = h
no_form forms.Variable rest h = h.0
no_form forms.Text rest h = h
no_form forms.Symbol rest h = h

first_lexed : (b : ℕ) (t rest : List ℕ) (k : TokenKind) → IsLexeme k (b ∷ t) rest → first_piece (b ∷ t ++ rest) ≡ Some (lexeme k (b ∷ t))
first_lexed b t rest k h =
    let s = longest_scanned h.form (b ∷ t) rest h.longest in
    let seam : take (suc (length t)) (b ∷ t ++ rest) ≡ b ∷ t = ap (λ us. b ∷ us) (take-append_seam t rest) in
    first_formed b (t ++ rest) (not_blank b (t ++ rest) (h.form, suc (length t)) s) h.outside ∙ ap (option_and_then (formed (b ∷ t ++ rest))) s
    ∙ ap (λ u. of_kind (kind_of h.form u) u) seam ∙ ap (λ o. of_kind o (b ∷ t)) h.kind

-- a piece at the front is found
pub first_found : (p : Piece) (rest : List ℕ) → IsPiece p rest → first_piece (bytes_of p ++ rest) ≡ Some p
first_found (blank b) rest h = rw h refl
first_found (comment []) rest h = absurd h
first_found (comment (a ∷ [])) rest h = absurd h
first_found (comment (a ∷ b ∷ c)) rest h =
    let i = closes_inside h.1 in
    let n : i.length_is ≡ length c = omega (arith, i.sum, length-append c rest) in
    let blank_no : is_blank a ≡ false = rw (eqb-true a 40 (opens_first a b h.0)) refl in
    let closed : inside 1 0 (c ++ rest) ≡ Some (length c) = i.is ∙ ap Some n in
    rw (blank_no, h.0, closed, take-append_seam c rest) refl
first_found (lexeme k []) rest h = absurd (no_form h.form rest h.longest.form)
first_found (lexeme k (b ∷ t)) rest h = first_lexed b t rest k h

-- where no piece is found, none begins
pub none_begins : (rest : List ℕ) → first_piece rest ≡ None → BeginsNoPiece rest
none_begins rest e p after w h = let some : first_piece rest ≡ Some p = ap first_piece w ∙ first_found p after h in cc

-- where none begins, none is found
pub none_found : (rest : List ℕ) → BeginsNoPiece rest → first_piece rest ≡ None
none_found rest h = by_option (first_piece rest) (first_is rest)
  where
    by_option : (o : Option Piece) → On o (λ p. IsFirst p rest) → o ≡ None
    by_option None k = refl
    by_option (Some p) k = absurd (h p k.rest k.whole k.piece)

-- the rest of a piece is passed
pub cut_passed : (u s : List ℕ) → cut_from (length u) (u ++ s) ≡ cut_from zero s
cut_passed [] s = refl
cut_passed (b ∷ u) s = cut_passed u s

-- a piece, and then those behind it
pub cut_step : (b : ℕ) (u s : List ℕ) (p : Piece) → bytes_of p ≡ b ∷ u → first_piece (b ∷ u ++ s) ≡ Some p → cut_from zero (b ∷ u ++ s) ≡ (p ∷ (cut_from zero s).0, (cut_from zero s).1)
cut_step b u s p e h =
    let n : length (bytes_of p) - 1 ≡ length u = rw e (omega arith) in
    ap (cut_at (b ∷ u ++ s) (λ k. cut_from k (u ++ s))) h
    ∙ ap (λ m. (p ∷ (cut_from m (u ++ s)).0, (cut_from m (u ++ s)).1)) n ∙ ap (λ (c : List Piece × List ℕ). (p ∷ c.0, c.1)) (cut_passed u s)

empty_piece : (p : Piece) (rest : List ℕ) → IsPiece p rest → bytes_of p ≡ [] → ⊥
empty_piece (blank c) rest h e = cc
empty_piece (comment []) rest h e = h
empty_piece (comment (c ∷ u)) rest h e = cc
empty_piece (lexeme k []) rest h e = no_form h.form rest h.longest.form
empty_piece (lexeme k (c ∷ u)) rest h e = cc

-- the same for a piece that begins the text
pub cut_first : (bs : List ℕ) (p : Piece) (f : IsFirst p bs) → first_piece bs ≡ Some p → cut_from zero bs ≡ (p ∷ (cut_from zero f.rest).0, (cut_from zero f.rest).1)
cut_first bs p f e = by_bytes (bytes_of p) refl
  where
    by_bytes : (us : List ℕ) → bytes_of p ≡ us → cut_from zero bs ≡ (p ∷ (cut_from zero f.rest).0, (cut_from zero f.rest).1)
    by_bytes [] k = absurd (empty_piece p f.rest f.piece k)
    by_bytes (c ∷ u) k =
        let front : bs ≡ c ∷ u ++ f.rest = f.whole ∙ ap (λ us. us ++ f.rest) k in
        ap (cut_from zero) front ∙ cut_step c u f.rest p k (ap first_piece (sym front) ∙ e)

-- where no piece begins, nothing is cut
pub cut_none : (bs : List ℕ) → first_piece bs ≡ None → cut_from zero bs ≡ ([], bs)
cut_none [] e = refl
cut_none (b ∷ bs) e = ap (cut_at (b ∷ bs) (λ k. cut_from k bs)) e

-- pieces are cut, up to where none begins
pub cut_pieces : (ps : List Piece) (rest : List ℕ) → AreCut ps rest → first_piece rest ≡ None → cut_from zero (joined ps ++ rest) ≡ (ps, rest)
cut_pieces [] rest h e = cut_none rest e
cut_pieces (p ∷ ps) rest h e =
    let whole : joined (p ∷ ps) ++ rest ≡ bytes_of p ++ (joined ps ++ rest) = append_assoc (bytes_of p) (joined ps) rest in
    let first : first_piece (joined (p ∷ ps) ++ rest) ≡ Some p = ap first_piece whole ∙ first_found p (joined ps ++ rest) h.0 in
    cut_first (joined (p ∷ ps) ++ rest) p (record { rest = joined ps ++ rest; whole = whole; piece = h.0 }) first
    ∙ ap (λ (c : List Piece × List ℕ). (p ∷ c.0, c.1)) (cut_pieces ps rest h.1 e)

-- what is cut are pieces, up to where none begins
pub record Cut (k : ℕ) (bs : List ℕ) (c : List Piece × List ℕ) : Type 0 where
  pub spelled : joined c.0 ++ c.1 ≡ drop k bs
  pub cut : AreCut c.0 c.1
  pub stops : first_piece c.1 ≡ None

cut_more : (b : ℕ) (bs u : List ℕ) (p : Piece) → bytes_of p ≡ b ∷ u → (f : IsFirst p (b ∷ bs)) → (c : List Piece × List ℕ) → Cut (length (bytes_of p) - 1) bs c → Cut zero (b ∷ bs) (p ∷ c.0, c.1)
cut_more b bs u p e f c k =
    let n : length (bytes_of p) - 1 ≡ length u = rw e (omega arith) in
    let front : b ∷ bs ≡ b ∷ u ++ f.rest = f.whole ∙ ap (λ us. us ++ f.rest) e in
    let tail : bs ≡ u ++ f.rest = cc in
    let rest_is : joined c.0 ++ c.1 ≡ f.rest = k.spelled ∙ ap (λ m. drop m bs) n ∙ ap (drop (length u)) tail ∙ drop-append_seam u f.rest in
    record {
      spelled = append_assoc (bytes_of p) (joined c.0) c.1 ∙ ap (λ us. bytes_of p ++ us) rest_is ∙ sym f.whole;
      cut = (subst (λ us. IsPiece p us) (sym rest_is) f.piece, k.cut);
      stops = k.stops;
    }

cut_found : (b : ℕ) (bs : List ℕ) → ((k : ℕ) → Cut k bs (cut_from k bs)) → (o : Option Piece) → first_piece (b ∷ bs) ≡ o → On o (λ p. IsFirst p (b ∷ bs)) → Cut zero (b ∷ bs) (cut_at (b ∷ bs) (λ k. cut_from k bs) o)
cut_found b bs again None e f = record { spelled = refl; cut = tt; stops = e }
cut_found b bs again (Some p) e f = by_bytes (bytes_of p) refl
  where
    by_bytes : (us : List ℕ) → bytes_of p ≡ us → Cut zero (b ∷ bs) (cut_at (b ∷ bs) (λ k. cut_from k bs) (Some p))
    by_bytes [] k = absurd (empty_piece p f.rest f.piece k)
    by_bytes (c ∷ u) k =
        let front : b ∷ bs ≡ c ∷ u ++ f.rest = f.whole ∙ ap (λ us. us ++ f.rest) k in
        let same : c ≡ b = cc in
        cut_more b bs u p (k ∙ ap (λ x. x ∷ u) same) f (cut_from (length (bytes_of p) - 1) bs) (again (length (bytes_of p) - 1))

pub cut_is : (k : ℕ) (bs : List ℕ) → Cut k bs (cut_from k bs)
cut_is zero [] = record { spelled = refl; cut = tt; stops = refl }
cut_is (suc k) [] = record { spelled = refl; cut = tt; stops = refl }
cut_is (suc k) (b ∷ bs) = let c = cut_is k bs in record { spelled = c.spelled; cut = c.cut; stops = c.stops }
cut_is zero (b ∷ bs) = cut_found b bs (λ k. cut_is k bs) (first_piece (b ∷ bs)) refl (first_is (b ∷ bs))
