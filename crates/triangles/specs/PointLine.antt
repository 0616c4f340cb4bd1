-- Which point a line of text says: three numbers with spaces between, x, y and data.
use Rattle.std.specs.Prelude.{ℕ, List, [], ◌∷◌, Some, None, Ok, Option, Result}
use Rattle.dcel.specs.declared.site.Site.{Site}
use Rattle.triangles.specs.declared.points.NotAPoint.{NotAPoint}
use Rattle.triangles.specs.Line.{words, number, unless_remark, understood}

abbrev pub if_number : (ℕ → Option Site) → Option ℕ → Option Site
if_number f None = None
if_number f (Some n) = f n

unfoldable pub of_numbers : List ℕ → List ℕ → List ℕ → Option Site
of_numbers a b c = if_number (λ x. if_number (λ y. if_number (λ d. Some (record { x = x; y = y; «data» = d })) (number c)) (number b)) (number a)

-- three words, neither more nor fewer
unfoldable pub point_of : List (List ℕ) → Option Site
point_of [] = None
point_of (a ∷ []) = None
point_of (a ∷ b ∷ []) = None
point_of (a ∷ b ∷ c ∷ []) = of_numbers a b c
point_of (a ∷ b ∷ c ∷ d ∷ more) = None

abbrev pub point_by : List (List ℕ) → Result (Option Site) NotAPoint
point_by = unless_remark (Ok None) (λ ws. understood (record {}) (point_of ws))

-- blank lines and remarks say nothing
abbrev pub point_line : List ℕ → Result (Option Site) NotAPoint
point_line line = point_by (words line)
