-- The machine at any size: its memory at the start, and one step.
use Rattle.std.specs.Prelude.{ℕ, ◌+◌, Bool, ◌&&◌, List, [], ◌∷◌, replicate, Some, None, Option, ◌==◌, nat_lt}
use Rattle.exact.specs.Plane.{pick, Tri}
use Rattle.dcel.specs.Layout.{Size, header, total}
use Rattle.dcel.specs.Memory.{cell, put, map_of, faces_in}
use Rattle.dcel.specs.Geometry.{face_tri}
use Rattle.dcel.specs.Start.{cleared}
use Rattle.delaunay.specs.Insert.{inserted, inserted_number}
use Rattle.triangles.specs.House.{Command, insert, remove, locate, nearest, all_faces, around, hull, clear}
use Rattle.triangles.specs.Promise.{Event, said, next, Act, shows, done, refused, Step, Engine}

-- the words of the header that have what the machine is at, and how many faces it has shown
abbrev pub mode : ℕ
mode = 5

abbrev pub cursor : ℕ
cursor = 6

-- nothing more to show; listing faces
abbrev pub ending : ℕ
ending = 0

abbrev pub listing : ℕ
listing = 1

abbrev pub does : List ℕ → Act → Step
does m a = record { memory = m; act = a }

abbrev pub at_end : Size → List ℕ → List ℕ
at_end s m = put s header m mode ending

-- the row of the next face, till all are shown
abbrev pub row_of : Tri → List ℕ
row_of t = t.one ∷ t.two ∷ t.three ∷ []

unfoldable pub next_face : Size → List ℕ → ℕ → Step
next_face s m i =
    pick (nat_lt (i + 1) (faces_in s m)) (does (put s header (put s header m mode listing) cursor (i + 1)) (shows (row_of (face_tri (map_of s m) (i + 1))))) (does (at_end s m) done)

-- a point is put in, its number is shown; 6 for coordinates that are too large, 7 if there is no room
abbrev pub told_number : Size → List ℕ → Option ℕ → List ℕ → Step
told_number s m None n = does m (refused 7)
told_number s m (Some v) n = does (at_end s n) (shows (v ∷ []))

abbrev pub small_enough : Size → ℕ → ℕ → ℕ → Bool
small_enough s a b d = (nat_lt a s.coordinates && nat_lt b s.coordinates) && nat_lt d 18446744073709551616

unfoldable pub put_in : Size → List ℕ → ℕ → ℕ → ℕ → Step
put_in s m a b d = pick (small_enough s a b d) (told_number s m (inserted_number s m a b) (inserted s m a b d)) (does m (refused 6))

-- what isn't known yet is refused with 2
abbrev pub said_step : Size → List ℕ → Command → Step
said_step s m (insert a b d) = put_in s m a b d
said_step s m (remove i) = does m (refused 2)
said_step s m (locate a b) = does m (refused 2)
said_step s m (nearest a b) = does m (refused 2)
said_step s m all_faces = next_face s m 0
said_step s m (around i) = does m (refused 2)
said_step s m hull = does m (refused 2)
said_step s m clear = does (at_end s (cleared s m)) done

unfoldable pub going_on : Size → List ℕ → Step
going_on s m = pick (cell s header m mode == listing) (next_face s m (cell s header m cursor)) (does m done)

unfoldable pub machine_step : Size → List ℕ → Event → Step
machine_step s m (said c) = said_step s m c
machine_step s m next = going_on s m

unfoldable pub zeros : ℕ → List ℕ
zeros n = replicate n 0

unfoldable pub machine : Size → Engine
machine s = record { start = zeros (total s); step = machine_step s }
