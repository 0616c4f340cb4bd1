-- What a line of text says. A line is its bytes: 32 is a space, 35 is #, 48 to 57 are the digits.
use Rattle.std.specs.Prelude.{ℕ, ◌+◌, ◌-◌, ◌*◌, Bool, false, not, ◌&&◌, List, [], ◌∷◌, Some, None, Ok, Err, codes, Option, Result, ◌==◌, nat_le, nat_lt}
use Rattle.std.specs.Str.{bytes_eq}
use Rattle.exact.specs.Plane.{pick, those, none_of}
use Rattle.triangles.specs.declared.request.Request.{Request}
use Rattle.triangles.specs.declared.request.Request.TheVariants.{Insert, Remove, Locate, Nearest, AllFaces, Around, Hull, Clear}
use Rattle.triangles.specs.declared.line.NotUnderstood.{NotUnderstood}

-- WORDS: the pieces between spaces, but for the empty ones
abbrev pub begin : ℕ → List (List ℕ) → List (List ℕ)
begin b [] = (b ∷ []) ∷ []
begin b (w ∷ ws) = (b ∷ w) ∷ ws

unfoldable pub pieces : List ℕ → List (List ℕ)
pieces [] = [] ∷ []
pieces (b ∷ bs) = pick (b == 32) ([] ∷ pieces bs) (begin b (pieces bs))

abbrev pub full : List ℕ → Bool
full w = not (none_of w)

abbrev pub words : List ℕ → List (List ℕ)
words line = those full (pieces line)

-- A NUMBER: digits alone, at least one, below 2^64
abbrev pub digit : ℕ → Bool
digit b = nat_le 48 b && nat_le b 57

unfoldable pub digits : ℕ → List ℕ → Option ℕ
digits n [] = Some n
digits n (b ∷ bs) = pick (digit b) (digits (n * 10 + (b - 48)) bs) None

abbrev pub small : Option ℕ → Option ℕ
small None = None
small (Some n) = pick (nat_lt n 18446744073709551616) (Some n) None

abbrev pub number : List ℕ → Option ℕ
number [] = None
number (b ∷ bs) = small (digits 0 (b ∷ bs))

-- WHAT IS SAID by a verb and the words after it, as many as it takes
abbrev pub of_one : (ℕ → Option Request) → Option ℕ → Option Request
of_one f None = None
of_one f (Some a) = f a

unfoldable pub alone : List ℕ → Option Request
alone verb = pick (bytes_eq verb (codes "hull")) (Some Hull) (pick (bytes_eq verb (codes "clear")) (Some Clear) None)

unfoldable pub with_one : List ℕ → List ℕ → Option Request
with_one verb a =
    pick (bytes_eq verb (codes "all")) (pick (bytes_eq a (codes "faces")) (Some AllFaces) None)
    (of_one (λ n. pick (bytes_eq verb (codes "remove")) (Some (Remove n)) (pick (bytes_eq verb (codes "around")) (Some (Around n)) None)) (number a))

unfoldable pub with_two : List ℕ → List ℕ → List ℕ → Option Request
with_two verb a b =
    of_one (λ x. of_one (λ y. pick (bytes_eq verb (codes "locate")) (Some (Locate x y)) (pick (bytes_eq verb (codes "nearest")) (Some (Nearest x y)) None)) (number b)) (number a)

unfoldable pub with_three : List ℕ → List ℕ → List ℕ → List ℕ → Option Request
with_three verb a b c =
    of_one (λ x. of_one (λ y. of_one (λ d. pick (bytes_eq verb (codes "insert")) (Some (Insert (record { x = x; y = y; «data» = d }))) None) (number c)) (number b)) (number a)

unfoldable pub request_of : List (List ℕ) → Option Request
request_of [] = None
request_of (verb ∷ []) = alone verb
request_of (verb ∷ a ∷ []) = with_one verb a
request_of (verb ∷ a ∷ b ∷ []) = with_two verb a b
request_of (verb ∷ a ∷ b ∷ c ∷ []) = with_three verb a b c
request_of (verb ∷ a ∷ b ∷ c ∷ d ∷ more) = None

-- what is read, or why nothing is
abbrev pub understood : {A E : Type 0} → E → Option A → Result (Option A) E
understood why None = Err why
understood why (Some a) = Ok (Some a)

-- a remark begins with #
abbrev pub remark : List ℕ → Bool
remark [] = false
remark (b ∷ bs) = b == 35

abbrev pub unless_remark : {A : Type 0} → A → (List (List ℕ) → A) → List (List ℕ) → A
unless_remark nothing read [] = nothing
unless_remark nothing read (w ∷ ws) = pick (remark w) nothing (read (w ∷ ws))

-- the words of a line that is no remark
abbrev pub heard : List (List ℕ) → List (List ℕ)
heard = unless_remark [] (λ ws. ws)

abbrev pub said_by : List (List ℕ) → Result (Option Request) NotUnderstood
said_by = unless_remark (Ok None) (λ ws. understood (record {}) (request_of ws))

-- blank lines and remarks say nothing
abbrev pub line_says : List ℕ → Result (Option Request) NotUnderstood
line_says line = said_by (words line)
