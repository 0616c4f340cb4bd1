-- The words of a text, one after another, and what they say.
use Rattle.std.proofs.Common.{◌≡◌, ℕ, zero, suc, ◌+◌, ◌<◌, Bool, true, false, eqb, cond, not, List, [], ◌∷◌, length, get_or, take, drop, map, Some, None, Ok, Option, Bor, sym, refl, ap, ◌∙◌, ◌==◌, drop-cons, arith}
use Rattle.std.specs.List.{position, position_or_len, slice_get}
use Rattle.std.proofs.lemmas.List.{drop_all}
use Rattle.std.proofs.lemmas.List.Sums.{prefix_len-le-length, prefix_len_stops}
use Rattle.std.specs.Option.{option_map, unwrap_or}
use Rattle.std.proofs.lemmas.Bool.Decides.{nat_tests}
use Rattle.exact.specs.Plane.{pick, those, none_of}
use Rattle.triangles.specs.Word.{leading, given}
use Rattle.triangles.specs.Line.{pieces, begin, full, words, heard, remark, unless_remark, request_of, understood, said_by}
use Rattle.triangles.specs.PointLine.{point_of, point_by}

-- ---- the next word: spaces, then the bytes up to the next one
abbrev spaces : List ℕ → ℕ
spaces xs = position_or_len (λ b. not (b == 32)) xs

abbrev first : List ℕ → List ℕ
first xs = take (position_or_len (λ b. b == 32) xs) xs

abbrev after : List ℕ → List ℕ
after xs = drop (position_or_len (λ b. b == 32) xs) xs

one_more : {n : ℕ} → 1 + n ≡ suc n
one_more = omega arith

trim_words : (xs : List ℕ) → words (drop (spaces xs) xs) ≡ words xs
unfolding pieces those none_of
trim_words [] = refl
trim_words (x ∷ xs) = at (eqb x 32) refl (trim_words xs)
  where
    at : (s : Bool) → eqb x 32 ≡ s → words (drop (spaces xs) xs) ≡ words xs → words (drop (cond (not (not s)) (1 + spaces xs) 0) (x ∷ xs)) ≡ those full (pick s ([] ∷ pieces xs) (begin x (pieces xs)))
    at true p e = rw one_more e
    at false p e = rw p refl

-- the pieces up to the first space, and the rest
record Cut (xs : List ℕ) : Type 0 where
  more : List (List ℕ)
  is : pieces xs ≡ first xs ∷ more
  rest : words (after xs) ≡ those full more

cut : (xs : List ℕ) → Cut xs
unfolding pieces those none_of
cut [] = record { more = []; is = refl; rest = refl }
cut (x ∷ xs) = at (eqb x 32) refl (cut xs)
  where
    at : (s : Bool) → eqb x 32 ≡ s → Cut xs → Cut (x ∷ xs)
    at true p c = record { more = pieces xs; is = simp p refl; rest = simp p refl }
    at false p c = record { more = c.more; is = rw (p, c.is, one_more) refl; rest = rw (p, one_more) c.rest }

pub no_words : words [] ≡ []
unfolding pieces those none_of
no_words = refl

begun : (x : ℕ) (xs : List ℕ) → eqb x 32 ≡ false → words (x ∷ xs) ≡ first (x ∷ xs) ∷ words (after (x ∷ xs))
unfolding pieces those none_of
begun x xs h = let c = cut xs in rw (h, one_more, c.is, c.rest) refl

module _ (xs : List ℕ) where
  pub none_left : position (λ b. not (b == 32)) xs ≡ None → (None ≡ slice_get (words xs) 0) × (words [] ≡ drop 1 (words xs))
  unfolding pieces those none_of
  none_left e = rw (← trim_words xs, drop_all (spaces xs) xs (grind (arith, nat_tests))) (refl, refl)

  word_left : (i : ℕ) → position (λ b. not (b == 32)) xs ≡ Some i → words xs ≡ first (drop i xs) ∷ words (after (drop i xs))
  word_left i e =
      let h : (spaces xs < length xs) × (i ≡ spaces xs) = grind (arith, nat_tests) in
      let stops = prefix_len_stops (λ b. not (not (b == 32))) xs 0 h.0 in
      rw (h.1, ← trim_words xs, drop-cons xs (spaces xs) 0 h.0) (begun (get_or xs (spaces xs) 0) (drop (suc (spaces xs)) xs) (grind (arith, nat_tests)))

  end_is : unwrap_or (position (λ b. b == 32) xs) (length xs) ≡ position_or_len (λ b. b == 32) xs
  end_is = let most = prefix_len-le-length (λ b. not (b == 32)) xs in grind (arith, nat_tests)

pub one_left : (line start word rest : List ℕ) (i n : ℕ) → position (λ b. not (b == 32)) line ≡ Some i → start ≡ drop i line → n ≡ unwrap_or (position (λ b. b == 32) start) (length start) →
    word ≡ take n start → rest ≡ drop n start → (Some word ≡ slice_get (words line) 0) × (words rest ≡ drop 1 (words line))
one_left line start word rest i n e s l w r = rw (word_left line i e, w, r, l, end_is start, s) (refl, refl)

-- ---- what they say
-- a word among the first n, told by its place
first_at : {A : Type 0} (os : List (Option (Bor A))) (n : ℕ) (xs : List A) → map (option_map (λ w. w.now)) os ≡ leading n xs → (k : ℕ) → k < n → option_map (λ w. w.now) (get_or os k None) ≡ slice_get xs k
first_at os zero xs e k h = absurd (omega arith)
first_at [] (suc n) [] e k h = cc
first_at [] (suc n) (x ∷ xs) e k h = cc
first_at (o ∷ os) (suc n) [] e zero h = cc
first_at (o ∷ os) (suc n) (x ∷ xs) e zero h = cc
first_at (o ∷ os) (suc n) [] e (suc k) h = first_at os n [] (cc) k (omega arith)
first_at (o ∷ os) (suc n) (x ∷ xs) e (suc k) h = first_at os n xs (cc) k (omega arith)

-- the verb, and the four words after it; those that follow make no difference
asked : (v : List ℕ) (ws : List (List ℕ)) → slice_get ws 0 ≡ Some v → request_of (v ∷ given (slice_get ws 1 ∷ slice_get ws 2 ∷ slice_get ws 3 ∷ slice_get ws 4 ∷ [])) ≡ request_of ws
unfolding request_of
asked v [] h = cc
asked v (w ∷ []) h = cc
asked v (w ∷ a ∷ []) h = cc
asked v (w ∷ a ∷ b ∷ []) h = cc
asked v (w ∷ a ∷ b ∷ c ∷ []) h = cc
asked v (w ∷ a ∷ b ∷ c ∷ d ∷ ws) h = refl

pointed : (x : List ℕ) (ws : List (List ℕ)) → slice_get ws 0 ≡ Some x → point_of (x ∷ given (slice_get ws 1 ∷ slice_get ws 2 ∷ slice_get ws 3 ∷ [])) ≡ point_of ws
unfolding point_of
pointed x [] h = cc
pointed x (w ∷ []) h = refl
pointed x (w ∷ a ∷ []) h = refl
pointed x (w ∷ a ∷ b ∷ []) h = cc
pointed x (w ∷ a ∷ b ∷ c ∷ ws) h = refl

dropped : {A : Type 0} (n : ℕ) (xs : List A) → slice_get (drop n xs) 0 ≡ slice_get xs n
dropped zero xs = refl
dropped (suc n) [] = refl
dropped (suc n) (x ∷ xs) = dropped n xs

module _ {A : Type 0} (nothing : A) (read : List (List ℕ) → A) where
  heeded : (v : List ℕ) (ws : List (List ℕ)) → slice_get (heard ws) 0 ≡ Some v → read (heard ws) ≡ unless_remark nothing read ws
  heeded v [] h = cc
  heeded v (w ∷ ws) h = at (remark w) h
    where
      at : (b : Bool) → slice_get (pick b [] (w ∷ ws)) 0 ≡ Some v → read (pick b [] (w ∷ ws)) ≡ pick b nothing (read (w ∷ ws))
      at true h = cc
      at false h = refl

-- what a line says, told by its first four words and the one after them
module _ (os : List (Option (Bor (List ℕ)))) (ws : List (List ℕ)) (e : map (option_map (λ w. w.now)) os ≡ leading 4 (heard ws)) where
  at : (k : ℕ) → k < 4 → option_map (λ w. w.now) (get_or os k None) ≡ slice_get (heard ws) k
  at = first_at os 4 (heard ws) e

  module _ (v : Bor (List ℕ)) (is : get_or os 0 None ≡ Some v) where
    verb : slice_get (heard ws) 0 ≡ Some v.now
    verb = sym (at 0 (omega arith)) ∙ ap (option_map (λ w. w.now)) is

    pub request_is : (o : Option (Bor (List ℕ))) (us : List (List ℕ)) → us ≡ drop 4 (heard ws) → option_map (λ w. w.now) o ≡ slice_get us 0 →
        understood (record {}) (request_of (v.now ∷ given (map (option_map (λ w. w.now)) (get_or os 1 None ∷ get_or os 2 None ∷ get_or os 3 None ∷ o ∷ [])))) ≡ said_by ws
    request_is o us r l = rw (at 1 (omega arith), at 2 (omega arith), at 3 (omega arith), l ∙ ap (λ x. slice_get x 0) r ∙ dropped 4 (heard ws), asked v.now (heard ws) verb) (heeded (Ok None) (λ us. understood (record {}) (request_of us)) v.now ws verb)

    pub point_is : understood (record {}) (point_of (v.now ∷ given (map (option_map (λ w. w.now)) (get_or os 1 None ∷ get_or os 2 None ∷ get_or os 3 None ∷ [])))) ≡ point_by ws
    point_is = rw (at 1 (omega arith), at 2 (omega arith), at 3 (omega arith), pointed v.now (heard ws) verb) (heeded (Ok None) (λ us. understood (record {}) (point_of us)) v.now ws verb)
