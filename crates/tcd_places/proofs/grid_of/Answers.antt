use Rattle.tcd_places.proofs.grid_of.Goals as goal

pub returns : goal.returns
returns c = let a = c.args in
    λ i. record {
      start = a.start;
      nodes = c.band_nodes-nodes.ensures i;
      depth = c.num_levels-depth.ensures i;
      w = a.band.across;
    }
