-- The cache may cross threads and be shared by them, type by type.
use denote.RattleType.{RattleType}
use denote.Struct.Declared.{shape}
use denote.Param.Send.{IsSend, IsSync, AllSend, struct_send, sendable}
use Rattle.std.specs.declared.cmp.Eq as total
use Rattle.std.specs.declared.cmp.PartialEq as eq
use Rattle.std.specs.declared.hash.Hash as hash
use Rattle.std.specs.declared.hash.Hasher as hasher
use Rattle.std.specs.declared.hash.BuildHasher as builder
use Rattle.std.proofs.Crossing.{crosses as owned, frees, send}
use Rattle.std.proofs.MapsCrossing.{HashMap-send}
use Rattle.std.specs.contracts.alloc.Global as heap
use Rattle.std.specs.contracts.impls.GlobalAllocator.TheImpl.{ghosts}
use Rattle.chronicle.proofs.Crossing.{crosses as tokens}
use Rattle.facet_model.specs.contracts.counted.Resolved as resolved
use Rattle.facet_names.specs.contracts.path.Path as path
use Rattle.lru.proofs.Crosses.{KeyRef-send, Deed-send, List-send}
use Rattle.lru.specs.contracts.cache.LruCache as cache
use Rattle.lru.specs.contracts.entry.Slot as slot
use Rattle.lru.specs.contracts.nodes.Nodes as nodes
use Rattle.taxo_cache.specs.contracts.memo.Memo as memo
use Rattle.taxo_cache.specs.contracts.memos.Memos as memos
use Rattle.taxo_cache.specs.contracts.stripe.Stripe as stripe
use Rattle.taxo_cache.specs.contracts.stripes.Stripes as stripes
use Rattle.taxo_cache.specs.declared.name.Name.{Ghosts}

-- a node's place in a cache's map, by itself and as a field
slot_send : (K V : RattleType) → IsSend (slot.the_row K V heap.the_row ghosts)
slot_send K V = let deed = Deed-send K V heap.the_row ghosts frees in search sendable depth 20

slot_held : (K V : RattleType) → IsSend (slot.the_field K V heap.the_row ghosts).row
slot_held K V = let deed = Deed-send K V heap.the_row ghosts frees in search sendable depth 20

module _ (K V S T : RattleType) (t : total.Ghosts K.Denot) (e : eq.Ghosts K.Denot) (h : hash.Ghosts K.Denot) (b : builder.Ghosts S.Denot T.Denot) (w : hasher.Ghosts T.Denot) where
  -- the map and the list of a cache, as its field
  nodes_held : IsSend K → IsSync K → IsSend V → IsSend S → IsSend (nodes.the_field K V S heap.the_row T t e h b w ghosts).row
  nodes_held k y v s =
      let O = nodes.the_type K V S heap.the_row T t e h b w ghosts in
      let map = HashMap-send _ _ S T _ _ b w (KeyRef-send K y) (slot_send K V) s in
      let all : AllSend (shape O).fields = (map, (slot_held K V, (slot_held K V, (List-send K V k y v, (send, tt))))) in
      struct_send (shape O) all

  pub cache_send : IsSend K → IsSync K → IsSend V → IsSend S → IsSend (cache.the_row K V S heap.the_row T t e h b w ghosts)
  cache_send k y v s = let inner = nodes_held k y v s in search sendable depth 20

pub path_send : IsSend path.the_row
path_send = search (sendable, owned) depth 20

pub path_sync : IsSync path.the_row
path_sync = search (sendable, owned) depth 20

resolved_send : IsSend resolved.the_row
resolved_send = search (sendable, owned) depth 20

module _ (N : RattleType) (n : Ghosts N.Denot) (send_n : IsSend N) where
  stripe_send : IsSend (stripe.the_row N n)
  stripe_send = search (sendable, owned, tokens, cache_send, path_send, path_sync) depth 30

  pub stripes_send : IsSend (stripes.the_row N n)
  stripes_send = search (sendable, owned, stripe_send) depth 30

  pub stripes_sync : IsSync (stripes.the_row N n)
  stripes_sync = search (sendable, owned, stripe_send) depth 30

  memo_send : IsSend (memo.the_row N n)
  memo_send = search (sendable, owned, tokens, cache_send, path_send, path_sync, resolved_send) depth 30

  pub memos_send : IsSend (memos.the_row N n)
  memos_send = search (sendable, owned, memo_send) depth 30

  pub memos_sync : IsSync (memos.the_row N n)
  memos_sync = search (sendable, owned, memo_send) depth 30

-- for the answers of callers whose types hold paths or a cache
pub ruleset crosses = (path_send, path_sync, stripes_send, stripes_sync, memos_send, memos_sync)
