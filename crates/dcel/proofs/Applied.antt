-- The map in memory after a change is written is the patched map.
use Rattle.std.proofs.Common.{◌≡◌, ℕ, ◌*◌, ◌<◌, ◌≤◌, List, [], ◌∷◌, length, refl, ap, ◌∙◌, arith}
use Rattle.std.proofs.Math.Path.{fun_ext}
use Rattle.dcel.specs.Layout.{Size, Table, vertex_out, edge_next, edge_prev, edge_face, edge_origin, face_edge, total}
use Rattle.dcel.specs.Pairs.{Pairs, changed, reversed, All}
use Rattle.dcel.specs.Map.{Map}
use Rattle.dcel.specs.Mesh.{Sound}
use Rattle.dcel.specs.Patch.{Triangle, triangle_links, triangle_sides, Change, Patch, patch_of}
use Rattle.dcel.specs.Memory.{cell, put_all, put_links, rewire, map_of}
use Rattle.dcel.proofs.Places.{OtherTable}
use Rattle.dcel.proofs.Changes.{each}
use Rattle.dcel.proofs.Cells.{all_same, all_other, length_put_all, links_next, links_prev, links_other, length_put_links, triangles_next, triangles_prev, triangles_face, triangles_edge, triangles_other, length_put_triangles}
use Rattle.dcel.proofs.Fits.{Fits}
use Rattle.dcel.proofs.Surgeries.{Room}

-- all places of a patch are in their tables
pub record InRange (s : Size) (p : Patch) : Type 0 where
  pub tails : All (λ e g. e < 6 * s.vertices) p.links
  pub heads : All (λ e g. g < 6 * s.vertices) p.links
  pub sides : All (λ e f. e < 6 * s.vertices) p.sides
  pub origins : All (λ e v. e < 6 * s.vertices) p.origins
  pub edges : All (λ f e. f < 2 * s.vertices) p.edges
  pub outs : All (λ v e. v < s.vertices) p.outs

pub in_range : (s : Size) (m n : Map) (p : Patch) → Fits m n p → Sound n → Room s n → InRange s p
in_range s m n p w S r = record {
  tails = each _ _ p.links (λ e g h. omega (arith, h.0, r.half_edge_room)) w.link_in;
  heads = each _ _ p.links (λ e g h. omega (arith, h.1, r.half_edge_room)) w.link_in;
  sides = each _ _ p.sides (λ e f h. omega (arith, r.half_edge_room)) w.side_in;
  origins = each _ _ p.origins (λ e v h. omega (arith, r.half_edge_room)) w.origin_in;
  edges = each _ _ p.edges (λ f e h. omega (arith, h.1, S.face_in e h.0, r.face_room)) w.edge_fits;
  outs = each _ _ p.outs (λ v e h. omega (arith, h.1, S.origin_in e h.0, r.vertex_room)) w.out_fits;
}

-- what holds of all links, or of all faces, holds of those that are in no triangle
chain_all : (P : ℕ → ℕ → Type 0) (ts : List Triangle) (ps : Pairs) → All P (triangle_links ts ps) → All P ps
chain_all P [] ps h = h
chain_all P (t ∷ ts) ps h = chain_all P ts ps h.1.1.1

others_all : (P : ℕ → ℕ → Type 0) (ts : List Triangle) (ps : Pairs) → All P (triangle_sides ts ps) → All P ps
others_all P [] ps h = h
others_all P (t ∷ ts) ps h = others_all P ts ps h.1.1.1

-- the tables that a change leaves
abbrev Untouched : Table → Type 0
Untouched k = OtherTable k edge_next × OtherTable k edge_prev × OtherTable k edge_face × OtherTable k edge_origin × OtherTable k face_edge × OtherTable k vertex_out

module _ (s : Size) (c : Change) (m : List ℕ) where
  abbrev with_outs : List ℕ
  with_outs = put_all s vertex_out c.outs m

  abbrev with_origins : List ℕ
  with_origins = put_all s edge_origin c.origins with_outs

  abbrev with_others : List ℕ
  with_others = put_all s edge_face c.others with_origins

  abbrev with_chain : List ℕ
  with_chain = put_links s c.chain with_others

  pub rewire_other : (k : Table) → Untouched k → (j : ℕ) → cell s k (rewire s c m) j ≡ cell s k m j
  rewire_other k o j =
      triangles_other s k c.triangles with_chain j o.0 o.1 o.2 o.4 ∙ links_other s k c.chain with_others j o.0 o.1 ∙ all_other s k edge_face c.others with_origins j o.2
      ∙ all_other s k edge_origin c.origins with_outs j o.3 ∙ all_other s k vertex_out c.outs m j o.5

  length_others : length with_others ≡ length m
  length_others = length_put_all s edge_face c.others with_origins ∙ length_put_all s edge_origin c.origins with_outs ∙ length_put_all s vertex_out c.outs m

  length_chain : length with_chain ≡ length m
  length_chain = length_put_links s c.chain with_others ∙ length_others

  pub length_rewire : length (rewire s c m) ≡ length m
  length_rewire = length_put_triangles s c.triangles with_chain ∙ length_chain

  -- before the chain and the triangles
  before : (k : Table) (j : ℕ) → OtherTable k edge_face → OtherTable k edge_origin → OtherTable k vertex_out → cell s k with_others j ≡ cell s k m j
  before k j a b d = all_other s k edge_face c.others with_origins j a ∙ all_other s k edge_origin c.origins with_outs j b ∙ all_other s k vertex_out c.outs m j d

  module _ (z : length m ≡ total s) (r : InRange s (patch_of c)) where
    long_outs : total s ≤ length with_outs
    long_outs = omega (arith, length_put_all s vertex_out c.outs m)

    long_origins : total s ≤ length with_origins
    long_origins = omega (arith, length_put_all s edge_origin c.origins with_outs, long_outs)

    long_others : total s ≤ length with_others
    long_others = omega (arith, length_others)

    long_chain : total s ≤ length with_chain
    long_chain = omega (arith, length_chain)

    pub next_is : cell s edge_next (rewire s c m) ≡ changed (patch_of c).links (cell s edge_next m)
    next_is = fun_ext (λ j. triangles_next s with_chain long_chain c.chain (cell s edge_next m) c.triangles j
        (links_next s c.chain with_others j long_others (chain_all _ c.triangles c.chain r.tails) ∙ ap (λ f. changed c.chain f j) (fun_ext (λ i. before edge_next i refl refl refl))) r.tails)

    pub prev_is : cell s edge_prev (rewire s c m) ≡ changed (reversed (patch_of c).links) (cell s edge_prev m)
    prev_is = fun_ext (λ j. triangles_prev s with_chain long_chain c.chain (cell s edge_prev m) c.triangles j
        (links_prev s c.chain with_others j long_others (chain_all _ c.triangles c.chain r.heads) ∙ ap (λ f. changed (reversed c.chain) f j) (fun_ext (λ i. before edge_prev i refl refl refl))) r.heads)

    pub face_is : cell s edge_face (rewire s c m) ≡ changed (patch_of c).sides (cell s edge_face m)
    face_is = fun_ext (λ j. triangles_face s with_chain long_chain c.others (cell s edge_face m) c.triangles j
        (links_other s edge_face c.chain with_others j refl refl ∙ all_same s edge_face c.others with_origins j long_origins (others_all _ c.triangles c.others r.sides)
        ∙ ap (λ f. changed c.others f j) (fun_ext (λ i. all_other s edge_face edge_origin c.origins with_outs i refl ∙ all_other s edge_face vertex_out c.outs m i refl))) r.sides)

    pub origin_is : cell s edge_origin (rewire s c m) ≡ changed c.origins (cell s edge_origin m)
    origin_is = fun_ext (λ j. triangles_other s edge_origin c.triangles with_chain j refl refl refl refl ∙ links_other s edge_origin c.chain with_others j refl refl
        ∙ all_other s edge_origin edge_face c.others with_origins j refl ∙ all_same s edge_origin c.origins with_outs j long_outs r.origins
        ∙ ap (λ f. changed c.origins f j) (fun_ext (λ i. all_other s edge_origin vertex_out c.outs m i refl)))

    pub edge_is : cell s face_edge (rewire s c m) ≡ changed (patch_of c).edges (cell s face_edge m)
    edge_is = fun_ext (λ j. triangles_edge s c.triangles with_chain j long_chain r.edges
        ∙ ap (λ f. changed (patch_of c).edges f j) (fun_ext (λ i. links_other s face_edge c.chain with_others i refl refl ∙ before face_edge i refl refl refl)))

    pub out_is : cell s vertex_out (rewire s c m) ≡ changed c.outs (cell s vertex_out m)
    out_is = fun_ext (λ j. triangles_other s vertex_out c.triangles with_chain j refl refl refl refl ∙ links_other s vertex_out c.chain with_others j refl refl
        ∙ all_other s vertex_out edge_face c.others with_origins j refl ∙ all_other s vertex_out edge_origin c.origins with_outs j refl ∙ all_same s vertex_out c.outs m j (omega arith) r.outs)

    -- with counts that are known
    pub map_is : (v e f : ℕ) → (map_of s (rewire s c m)).vertices ≡ v → (map_of s (rewire s c m)).half_edges ≡ e → (map_of s (rewire s c m)).faces ≡ f →
        map_of s (rewire s c m) ≡ record {
          next = changed (patch_of c).links (cell s edge_next m);
          prev = changed (reversed (patch_of c).links) (cell s edge_prev m);
          face = changed (patch_of c).sides (cell s edge_face m);
          origin = changed c.origins (cell s edge_origin m);
          edge = changed (patch_of c).edges (cell s face_edge m);
          out = changed c.outs (cell s vertex_out m);
          vertices = v;
          half_edges = e;
          faces = f;
        }
    map_is v e f a b d = λ i. record {
      next = next_is i;
      prev = prev_is i;
      face = face_is i;
      origin = origin_is i;
      edge = edge_is i;
      out = out_is i;
      vertices = a i;
      half_edges = b i;
      faces = d i;
    }
