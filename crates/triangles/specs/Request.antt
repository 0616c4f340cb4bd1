-- The commands that requests stand for, and the events of the machine.
use Rattle.triangles.specs.House.{Command, insert, remove, locate, nearest, all_faces, around, hull, clear}
use Rattle.triangles.specs.Promise.{Event, said, next}
use Rattle.triangles.specs.declared.event.Event.{Event as Given}
use Rattle.triangles.specs.declared.event.Event.TheVariants.{Said, GoOn}
use Rattle.triangles.specs.declared.request.Request.{Request}
use Rattle.triangles.specs.declared.request.Request.TheVariants.{Insert, Remove, Locate, Nearest, AllFaces, Around, Hull, Clear}

abbrev pub command_of : Request → Command
command_of (Insert site) = insert site.x site.y site.«data»
command_of (Remove i) = remove i
command_of (Locate x y) = locate x y
command_of (Nearest x y) = nearest x y
command_of AllFaces = all_faces
command_of (Around i) = around i
command_of Hull = hull
command_of Clear = clear

abbrev pub told : Given → Event
told (Said r) = said (command_of r)
told GoOn = next
