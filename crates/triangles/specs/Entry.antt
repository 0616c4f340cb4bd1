-- What the entry that tells where a point lies to a small circle answers; and how a step of the whole machine is told to the world outside. Assumes nothing: these
-- are definitions.
use Rattle.std.specs.Prelude.{Result, Ok, Err, ◌≡◌, ℕ, Bool, true, false, ◌&&◌, ltb, List, ◌++◌, length, drop, ◌==◌, nat_le, nat_lt}
use Rattle.exact.specs.Plane.{pick, every, Point, circle, above_0, below_0, left_of}
use Rattle.triangles.specs.House.{insert, remove, locate, nearest, all_faces, around, hull, clear}
use Rattle.exact.specs.declared.verdict.Circle.{Circle}
use Rattle.exact.specs.declared.verdict.Circle.TheVariants.{Inside, On, Outside}
use Rattle.triangles.specs.declared.small.NoCircle.{NoCircle}
use Rattle.triangles.specs.declared.small.NoCircle.TheVariants.{TooLarge, NotLeft}
use Rattle.triangles.specs.declared.refusal.Refusal.{Refusal}
use Rattle.triangles.specs.declared.refusal.Refusal.TheVariants.{Unfit, NotKnown, TooLarge as too-large, NoRoom}
use Rattle.dcel.specs.Layout.{real}
use Rattle.triangles.specs.Machine.{machine}
use Rattle.triangles.specs.Promise.{Engine, Event, said, next, Act, shows, done, refused}
use Rattle.triangles.specs.declared.Told.{Told}
use Rattle.triangles.specs.declared.Told.TheVariants.{Shows, Done}

abbrev pub smaller : ℕ → ℕ → ℕ
smaller a b = pick (nat_lt a b) a b

-- the numbers of its refusals
abbrev pub circle_number : NoCircle → ℕ
circle_number TooLarge = 1
circle_number NotLeft = 2

-- four points with coordinates below 2^12; refused with 1 for others, with 2 if the first three don't turn to the left
abbrev pub circle_told : Point → Point → Point → Point → Result Circle NoCircle
circle_told p q r s =
    pick (left_of p q r) (Ok (pick (above_0 (circle p q r s)) Inside (pick (below_0 (circle p q r s)) Outside On))) (Err NotLeft)

unfoldable pub CircleSays : Point → Point → Point → Point → Bool → Result Circle NoCircle → Type 0
CircleSays p q r s true a = a ≡ circle_told p q r s
CircleSays p q r s false a = a ≡ Err TooLarge

abbrev pub circle_fits : (xs : List ℕ) → Bool
circle_fits xs = every (λ n. ltb n 4096) xs

-- THE MACHINE ITSELF, at its size: 16,384 vertices with coordinates below 2^20
unfoldable pub own : Engine
own = machine real

-- 0 insert, 1 remove, 2 locate, 3 nearest, 4 all faces, 5 around, 6 hull, 7 clear, 8 go on
unfoldable pub event_of : ℕ → ℕ → ℕ → ℕ → Event
event_of k a b c =
    pick (k == 0) (said (insert a b c)) (pick (k == 1) (said (remove a)) (pick (k == 2) (said (locate a b)) (pick (k == 3) (said (nearest a b))
    (pick (k == 4) (said all_faces) (pick (k == 5) (said (around a)) (pick (k == 6) (said hull) (pick (k == 7) (said clear) next)))))))

-- the numbers of a step's refusals
abbrev pub number_of : Refusal → ℕ
number_of Unfit = 0
number_of NotKnown = 2
number_of too-large = 6
number_of NoRoom = 7

unfoldable pub ActTold : Act → Result Told Refusal → (out out₁ : List ℕ) → Type 0
ActTold (shows s) r out out₁ = (r ≡ Ok (Shows (length s))) × (out₁ ≡ s ++ drop (length s) out)
ActTold done r out out₁ = (r ≡ Ok Done) × (out₁ ≡ out)
ActTold (refused k) r out out₁ = ((why : Refusal) × (r ≡ Err why) × (number_of why ≡ k)) × (out₁ ≡ out)

-- one step: for memories of the machine's own length and a lent row of four; others are refused as unfit, which is number 0, and nothing is changed
unfoldable pub StepSays : (memory : List ℕ) (kind a b c : ℕ) (out : List ℕ) → Bool → Result Told Refusal → (memory₁ out₁ : List ℕ) → Type 0
StepSays memory kind a b c out true r memory₁ out₁ =
    (memory₁ ≡ (own.step memory (event_of kind a b c)).memory) × ActTold (own.step memory (event_of kind a b c)).act r out out₁
StepSays memory kind a b c out false r memory₁ out₁ = (r ≡ Err Unfit) × (memory₁ ≡ memory) × (out₁ ≡ out)

unfoldable pub step_fits : (memory : List ℕ) (kind : ℕ) (out : List ℕ) → Bool
step_fits memory kind out = length memory == length own.start && (nat_le kind 8 && nat_le 4 (length out))
