use Rattle.std.proofs.Common.{◌≡◌, ◌⊎◌, inl, inr, ℕ, zero, ◌+◌, ◌-◌, ◌<◌, ◌≤◌, All, List, [], ◌∷◌, ◌++◌, length, take, drop, map, Option, Some, None, Ok, Err, refl, sym, ◌∙◌, ap, subst, arith, append_assoc, length-drop}
use Rattle.std.specs.Prelude.{◌≢◌, Result, option_map}
use Rattle.std.proofs.Math.Seq.{take-append_seam, drop-append_seam}
use Rattle.std.proofs.lemmas.List.{take-append-drop, drop-drop, length-take-le, map-append}
use Rattle.std.proofs.lemmas.List.Elements.{All-nil, All-cons, All-append}
use Rattle.fx_base.specs.declared.refusal.Place.{Place}
use Rattle.ml_lexer.specs.declared.piece.Sort.{Sort}
use Rattle.ml_lexer.specs.declared.piece.Sort.TheVariants as sorts
use Rattle.ml_lexer.specs.declared.token.Token.{Token}
use Rattle.ml_lexer.specs.Lexeme.{Lexeme, lexeme_at, LiesIn}
use Rattle.ml_lexer.specs.Lexes.{Piece, blank, comment, lexeme, bytes_of, joined, place_after, first_place, lexemes_of, Lexes, FaultsAt}
use Rattle.ml_lexer.specs.Scan.{first_piece, cut_from}
use Rattle.ml_lexer.specs.Pieces.{found, found_of, made, outcome, read_from, behind}
use Rattle.ml_lexer.proofs.Scans.{On}
use Rattle.ml_lexer.proofs.Ahead.{rest_slice}
use Rattle.ml_lexer.proofs.PieceScans.{IsFirst, first_is, none_begins, none_found, cut_first, cut_none, cut_pieces, cut_is, Cut}

-- the lexeme of a piece, if it is one
abbrev one : Place → Piece → List Lexeme
one place p = lexemes_of place (p ∷ [])

lexemes_more : (place : Place) (p : Piece) (ps : List Piece) → lexemes_of place (p ∷ ps) ≡ one place p ++ lexemes_of (place_after place (bytes_of p)) ps
lexemes_more place (blank b) ps = refl
lexemes_more place (comment c) ps = refl
lexemes_more place (lexeme k t) ps = refl

place_append : (us vs : List ℕ) (place : Place) → place_after place (us ++ vs) ≡ place_after (place_after place us) vs
place_append [] vs place = refl
place_append (u ∷ us) vs place = place_append us vs _

outcome_more : (place : Place) (p : Piece) (ps : List Piece) (rest : List ℕ) → outcome place (p ∷ ps) rest ≡ behind (one place p) (outcome (place_after place (bytes_of p)) ps rest)
outcome_more place p ps [] = ap Ok (lexemes_more place p ps)
outcome_more place p ps (b ∷ bs) = ap Err (place_append (bytes_of p) (joined ps) place)

-- what is read behind a piece
read_more : (bs : List ℕ) (place : Place) (p : Piece) (f : IsFirst p bs) → first_piece bs ≡ Some p → read_from place bs ≡ behind (one place p) (read_from (place_after place (bytes_of p)) f.rest)
read_more bs place p f e = ap (λ (c : List Piece × List ℕ). outcome place c.0 c.1) (cut_first bs p f e) ∙ outcome_more place p (cut_from zero f.rest).0 (cut_from zero f.rest).1

read_none : (bs : List ℕ) (place : Place) → 0 < length bs → first_piece bs ≡ None → read_from place bs ≡ Err place
read_none [] place h e = absurd (omega arith)
read_none (b ∷ bs) place h e = ap (λ (c : List Piece × List ℕ). outcome place c.0 c.1) (cut_none (b ∷ bs) e)

behind_twice : (ls ms : List Lexeme) (r : Result (List Lexeme) Place) → behind ls (behind ms r) ≡ behind (ls ++ ms) r
behind_twice ls ms (Err p) = refl
behind_twice ls ms (Ok ns) = ap Ok (sym (append_assoc ls ms ns))

-- the slice of so many bytes from an index on
part_slice : (at n : ℕ) (bs : List ℕ) → take (at + n - at) (drop at bs) ≡ take n (drop at bs)
part_slice at n bs = ap (λ k. take k (drop at bs)) (omega arith)

-- the token of a piece shows its lexeme
made_seen : (source : List ℕ) (at : ℕ) (place : Place) (p : Piece) (rest : List ℕ) → drop at source ≡ bytes_of p ++ rest → map (lexeme_at source) (made (found p) at (length (bytes_of p)) place) ≡ one place p
made_seen source at place (blank b) rest h = refl
made_seen source at place (comment c) rest h = refl
made_seen source at place (lexeme k t) rest h =
    let text : take (at + length t - at) (drop at source) ≡ t = part_slice at (length t) source ∙ ap (take (length t)) h ∙ take-append_seam t rest in
    ap (λ u. record { kind = k; text = u; place = place } ∷ []) text

-- what stands at the front, with the piece that it is
record Front (bs : List ℕ) (sort : Sort) (n : ℕ) : Type 0 where
  piece : Piece
  first : first_piece bs ≡ Some piece
  sort_is : found piece ≡ sort
  length_is : length (bytes_of piece) ≡ n

front_of : (bs : List ℕ) (sort : Sort) (n : ℕ) → Some (sort, n) ≡ option_map found_of (first_piece bs) → Front bs sort n
front_of bs sort n h = by_piece (first_piece bs) refl h
  where
    by_piece : (o : Option Piece) → first_piece bs ≡ o → Some (sort, n) ≡ option_map found_of o → Front bs sort n
    by_piece None e k = absurd (cc)
    by_piece (Some p) e k =
        let pair : (sort, n) ≡ found_of p = cc in
        record { piece = p; first = e; sort_is = sym (ap (λ (q : Sort × ℕ). q.0) pair); length_is = sym (ap (λ (q : Sort × ℕ). q.1) pair) }

-- one more piece, as the loop sees it
pub cut_preserved : (bs : List ℕ) (at n : ℕ) (place next : Place) (sort : Sort) (items more : List Token) → read_from first_place bs ≡ behind (map (lexeme_at bs) items) (read_from place (drop at bs)) → Some (sort, n) ≡ option_map found_of (first_piece (take (length bs - at) (drop at bs))) → more ≡ items ++ made sort at n place → next ≡ place_after place (take (at + n - at) (drop at bs)) → read_from first_place bs ≡ behind (map (lexeme_at bs) more) (read_from next (drop (at + n) bs))
cut_preserved bs at n place next sort items more i e m p =
    let r = front_of (drop at bs) sort n (subst (λ us. Some (sort, n) ≡ option_map found_of (first_piece us)) (rest_slice at bs) e) in
    let f : IsFirst r.piece (drop at bs) = subst (λ o. On o (λ q. IsFirst q (drop at bs))) r.first (first_is (drop at bs)) in
    let us = bytes_of r.piece in
    let size : length us ≡ n = r.length_is in
    let taken : us ≡ take (at + n - at) (drop at bs) = sym (take-append_seam us f.rest) ∙ ap (λ k. take k (us ++ f.rest)) size ∙ ap (take n) (sym f.whole) ∙ sym (part_slice at n bs) in
    let rest : f.rest ≡ drop (at + n) bs = sym (drop-append_seam us f.rest) ∙ ap (λ k. drop k (us ++ f.rest)) size ∙ ap (drop n) (sym f.whole) ∙ drop-drop n at bs in
    let seen : one place r.piece ≡ map (lexeme_at bs) (made sort at n place) =
    sym (ap (λ s. map (lexeme_at bs) (made s at n place)) (sym r.sort_is) ∙ ap (λ k. map (lexeme_at bs) (made (found r.piece) at k place)) (sym size) ∙ made_seen bs at place r.piece f.rest f.whole) in
    let moved : place_after place us ≡ next = ap (place_after place) taken ∙ sym p in
    let all : map (lexeme_at bs) items ++ one place r.piece ≡ map (lexeme_at bs) more =
    ap (λ ls. map (lexeme_at bs) items ++ ls) seen ∙ sym (map-append (lexeme_at bs) items (made sort at n place)) ∙ ap (map (lexeme_at bs)) (sym m) in
    i ∙ ap (behind (map (lexeme_at bs) items)) (read_more (drop at bs) place r.piece f r.first) ∙ behind_twice (map (lexeme_at bs) items) (one place r.piece) (read_from (place_after place us) f.rest)
    ∙ ap (λ ls. behind ls (read_from (place_after place us) f.rest)) all ∙ ap (λ q. behind (map (lexeme_at bs) more) (read_from q f.rest)) moved ∙ ap (λ vs. behind (map (lexeme_at bs) more) (read_from next vs)) rest

-- the place behind the text, as the loop sees it
pub moved_preserved : (bs : List ℕ) (at n : ℕ) (place next : Place) → place_after first_place bs ≡ place_after place (drop at bs) → next ≡ place_after place (take (at + n - at) (drop at bs)) → place_after first_place bs ≡ place_after next (drop (at + n) bs)
moved_preserved bs at n place next i p =
    let rest = drop at bs in
    let moved : place_after place (take n rest) ≡ next = ap (place_after place) (sym (part_slice at n bs)) ∙ sym p in
    i ∙ ap (place_after place) (sym (take-append-drop n rest)) ∙ place_append (take n rest) (drop n rest) place
    ∙ ap (λ q. place_after q (drop n rest)) moved ∙ ap (place_after next) (drop-drop n at bs)

-- no piece, as the loop sees it
pub cut_stops : (bs : List ℕ) (at : ℕ) (place : Place) (ls : List Lexeme) → at < length bs → read_from first_place bs ≡ behind ls (read_from place (drop at bs)) → None ≡ option_map found_of (first_piece (take (length bs - at) (drop at bs))) → read_from first_place bs ≡ Err place
cut_stops bs at place ls h i e =
    let none : first_piece (drop at bs) ≡ None = none_first _ (subst (λ us. None ≡ option_map found_of (first_piece us)) (rest_slice at bs) e) in
    i ∙ ap (behind ls) (read_none (drop at bs) place (omega (arith, length-drop at bs)) none)
  where
    none_first : (o : Option Piece) → None ≡ option_map found_of o → o ≡ None
    none_first None h = refl
    none_first (Some p) h = absurd (cc)

-- the token that is added lies in the text
pub made_lies : (bs : List ℕ) (at n : ℕ) (place : Place) (sort : Sort) (items more : List Token) → at + n ≤ length bs → All (LiesIn bs) items → more ≡ items ++ made sort at n place → All (LiesIn bs) more
made_lies bs at n place sort items more h i m = subst (All (LiesIn bs)) (sym m) (All-append (LiesIn bs) items (made sort at n place) i (by_sort sort))
  where
    by_sort : (s : Sort) → All (LiesIn bs) (made s at n place)
    by_sort sorts.Blank = All-nil (LiesIn bs)
    by_sort sorts.Comment = All-nil (LiesIn bs)
    by_sort (sorts.Lexeme k) = All-cons (LiesIn bs) _ [] (record { ordered = omega arith; within = h }) (All-nil (LiesIn bs))

pub part_length : (at n : ℕ) (bs : List ℕ) → n ≤ length (take (length bs - at) (drop at bs)) → at ≤ length bs → (at + n ≤ length bs) × (length (take (at + n - at) (drop at bs)) ≡ n)
part_length at n bs h k =
    let within : n ≤ length (drop at bs) = subst (λ us. n ≤ length us) (rest_slice at bs) h in
    (omega (arith, within, length-drop at bs), ap length (part_slice at n bs) ∙ length-take-le n (drop at bs) within)

append_nil : (us : List ℕ) → us ++ [] ≡ us
append_nil [] = refl
append_nil (u ∷ us) = ap (λ vs. u ∷ vs) (append_nil us)

-- the lexemes of a text are those that are read
pub read_lexes : (bs : List ℕ) (ls : List Lexeme) → read_from first_place bs ≡ Ok ls → Lexes bs ls
read_lexes bs ls h = by_rest (cut_from zero bs).0 (cut_from zero bs).1 (cut_is zero bs) h
  where
    by_rest : (ps : List Piece) (rest : List ℕ) → Cut zero bs (ps, rest) → outcome first_place ps rest ≡ Ok ls → Lexes bs ls
    by_rest ps [] c k = record { pieces = ps; spelled = sym (append_nil (joined ps)) ∙ c.spelled; cut = c.cut; lexemes_are = cc }
    by_rest ps (b ∷ rest) c k = absurd (cc)

pub lexes_read : (bs : List ℕ) (ls : List Lexeme) → Lexes bs ls → read_from first_place bs ≡ Ok ls
lexes_read bs ls h =
    let whole : bs ≡ joined h.pieces ++ [] = sym (append_nil (joined h.pieces) ∙ h.spelled) in
    ap (read_from first_place) whole ∙ ap (λ (c : List Piece × List ℕ). outcome first_place c.0 c.1) (cut_pieces h.pieces [] h.cut refl) ∙ ap Ok (sym h.lexemes_are)

-- the first fault is where reading stops
pub read_faults : (bs : List ℕ) (place : Place) → read_from first_place bs ≡ Err place → FaultsAt bs place
read_faults bs place h = by_rest (cut_from zero bs).0 (cut_from zero bs).1 (cut_is zero bs) h
  where
    by_rest : (ps : List Piece) (rest : List ℕ) → Cut zero bs (ps, rest) → outcome first_place ps rest ≡ Err place → FaultsAt bs place
    by_rest ps [] c k = absurd (cc)
    by_rest ps (b ∷ rest) c k = record { pieces = ps; rest = b ∷ rest; spelled = c.spelled; cut = c.cut; more = λ e. cc; stuck = none_begins (b ∷ rest) c.stops; place_is = cc }

pub faults_read : (bs : List ℕ) (place : Place) → FaultsAt bs place → read_from first_place bs ≡ Err place
faults_read bs place h =
    ap (read_from first_place) (sym h.spelled) ∙ ap (λ (c : List Piece × List ℕ). outcome first_place c.0 c.1) (cut_pieces h.pieces h.rest h.cut (none_found h.rest h.stuck)) ∙ by_rest h.rest h.more ∙ ap Err (sym h.place_is)
  where
    by_rest : (rest : List ℕ) → rest ≢ [] → outcome first_place h.pieces rest ≡ Err (place_after first_place (joined h.pieces))
    by_rest [] n = absurd (n refl)
    by_rest (b ∷ rest) n = refl

-- a text has one reading
pub one_list : (bs : List ℕ) (some other : List Lexeme) → Lexes bs some → Lexes bs other → some ≡ other
one_list bs some other h k = let e : Ok some ≡ Ok other = sym (lexes_read bs some h) ∙ lexes_read bs other k in cc

pub one_fault : (bs : List ℕ) (some other : Place) → FaultsAt bs some → FaultsAt bs other → some ≡ other
one_fault bs some other h k = let e : Err some ≡ Err other = sym (faults_read bs some h) ∙ faults_read bs other k in cc

pub no_fault : (bs : List ℕ) (ls : List Lexeme) (place : Place) → Lexes bs ls → FaultsAt bs place → ⊥
no_fault bs ls place h k = let e : Ok ls ≡ Err place = sym (lexes_read bs ls h) ∙ faults_read bs place k in cc

pub reading : (bs : List ℕ) → ((ls : List Lexeme) × Lexes bs ls) ⊎ ((place : Place) × FaultsAt bs place)
reading bs = by_result (read_from first_place bs) refl
  where
    by_result : (r : Result (List Lexeme) Place) → read_from first_place bs ≡ r → ((ls : List Lexeme) × Lexes bs ls) ⊎ ((place : Place) × FaultsAt bs place)
    by_result (Ok ls) e = inl (ls, read_lexes bs ls e)
    by_result (Err place) e = inr (place, read_faults bs place e)
