-- A surgery changes a mesh at a few places: as one writes them down, and as a patch of each function of the mesh.
use Rattle.std.specs.Prelude.{ℕ, List, [], ◌∷◌}
use Rattle.dcel.specs.Pairs.{Pairs, changed, reversed}
use Rattle.dcel.specs.Map.{Map}

-- three half edges, one after the other, of one face, which gets the first for its own
pub record Triangle : Type 0 where
  pub first : ℕ
  pub second : ℕ
  pub third : ℕ
  pub face : ℕ

abbrev pub triangle : ℕ → ℕ → ℕ → ℕ → Triangle
triangle a b c f = record { first = a; second = b; third = c; face = f }

-- What is written: triangles; links (e, g), which make g the next of e and e the one before g; faces of other half edges; origins of half edges; half edges that leave vertices; counts.
pub record Change : Type 0 where
  pub triangles : List Triangle
  pub chain : Pairs
  pub others : Pairs
  pub origins : Pairs
  pub outs : Pairs
  pub vertices : ℕ
  pub half_edges : ℕ
  pub faces : ℕ

-- the same by functions: links for next and prev, sides for face, origins, edges and outs
pub record Patch : Type 0 where
  pub links : Pairs
  pub sides : Pairs
  pub origins : Pairs
  pub edges : Pairs
  pub outs : Pairs
  pub vertices : ℕ
  pub half_edges : ℕ
  pub faces : ℕ

abbrev pub triangle_links : List Triangle → Pairs → Pairs
triangle_links [] ps = ps
triangle_links (t ∷ ts) ps = (t.first, t.second) ∷ (t.second, t.third) ∷ (t.third, t.first) ∷ triangle_links ts ps

abbrev pub triangle_sides : List Triangle → Pairs → Pairs
triangle_sides [] ps = ps
triangle_sides (t ∷ ts) ps = (t.first, t.face) ∷ (t.second, t.face) ∷ (t.third, t.face) ∷ triangle_sides ts ps

abbrev pub triangle_edges : List Triangle → Pairs
triangle_edges [] = []
triangle_edges (t ∷ ts) = (t.face, t.first) ∷ triangle_edges ts

abbrev pub patch_of : Change → Patch
patch_of c = record {
  links = triangle_links c.triangles c.chain;
  sides = triangle_sides c.triangles c.others;
  origins = c.origins;
  edges = triangle_edges c.triangles;
  outs = c.outs;
  vertices = c.vertices;
  half_edges = c.half_edges;
  faces = c.faces;
}

abbrev pub patched : Patch → Map → Map
patched p m = record {
  next = changed p.links m.next;
  prev = changed (reversed p.links) m.prev;
  face = changed p.sides m.face;
  origin = changed p.origins m.origin;
  edge = changed p.edges m.edge;
  out = changed p.outs m.out;
  vertices = p.vertices;
  half_edges = p.half_edges;
  faces = p.faces;
}
