-- For crates above: a queue of bounded length may go to another thread if its items may (`buffer_send`).
use denote.RattleType.{RattleType}
use denote.Param.Send.{IsSend}
use Rattle.std.proofs.Crossing.{frees, send}
use Rattle.std_heap.specs.contracts.Global as Heap
use Rattle.std_heap.specs.contracts.GlobalAllocator.TheImpl.{ghosts}
use Rattle.circular_buffer.proofs.heap.HeapCircularBuffer.TheSendSync as buffer
use Rattle.circular_buffer.specs.contracts.heap.HeapCircularBuffer.{the_row}

pub buffer_send : (T : RattleType) → IsSend T → IsSend (the_row T Heap.the_row ghosts)
buffer_send T s = buffer.the_send T Heap.the_row ghosts s send frees
